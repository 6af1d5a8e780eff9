-- The sheet that is lent in its parts.
-- Assumes nothing.
use Rattle.column.specs.Seen.{column_seen}
use Rattle.sheet.specs.declared.Sheet.{Sheet}
use Rattle.sheet.specs.declared.lent.SheetRef.{SheetRef}

-- No part of the paper: the sheet that the parts make
abbrev pub sheet_seen : SheetRef → Sheet
sheet_seen s = record { column = column_seen s.column; effects = s.effects }
