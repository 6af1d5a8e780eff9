-- What pasting gives in the examples holds. A wrong definition of pasting is refused here, by an example, before it is at a
-- law: modules are checked in the order of their names.
-- Assumes nothing.
use Rattle.std.proofs.Common.{refl}
use Rattle.lists.specs.Lists.{All, none, more}
use Rattle.column.specs.Line.{entries_of, unpacked}
use Rattle.column.specs.Accepted.{last_floor, first_condition, entry_number}
use Rattle.column.specs.Column.{lines_of, column_of, opened_of, entered_of, after}
use Rattle.column.specs.Pasted.{pasted_from}
use Rattle.column.specs.tables.Pasting.{above, below, no_class, over_load, over_area, examples, Says}

-- 02, CR 1: every example, by computing it
pub examples_hold : All Says examples
unfolding examples Says above below no_class over_load over_area entries_of unpacked opened_of after entered_of lines_of column_of entry_number first_condition last_floor pasted_from
examples_hold = more refl (more refl (more refl (more refl (more refl (more refl (more refl none))))))
