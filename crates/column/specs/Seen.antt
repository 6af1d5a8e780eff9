-- The column that is lent in its parts.
-- Assumes nothing.
use Rattle.column.specs.declared.Column.{Column}
use Rattle.column.specs.declared.lent.ColumnRef.{ColumnRef}
use Rattle.column.specs.Column.{column_from}

-- No part of the paper: the column that the parts make
abbrev pub column_seen : ColumnRef → Column
column_seen c = column_from c.member c.count c.held.now
