-- What writing gives in the examples holds. A wrong definition of writing is refused here, by an example, before it is at a
-- law: modules are checked in the order of their names.
-- Assumes nothing.
use Rattle.std.proofs.Common.{refl}
use Rattle.lists.specs.Lists.{All, none, more}
use Rattle.text.specs.Text.{joined, last_digit, digits_in, decimal, signed_parts}
use Rattle.text.specs.Lines.{text_of}
use Rattle.newtons.specs.Effect.{signed, value_of, limited, effect_of}
use Rattle.effects.specs.Check.{if_given, checked_from}
use Rattle.column.specs.Line.{entries_of, unpacked}
use Rattle.column.specs.Column.{lines_of, column_of}
use Rattle.sheet_lines.specs.Form.{member_keys, floor_keys, effect_keys}
use Rattle.sheet_lines.specs.LineText.{fields_text, member_text, line_numbers, floor_text, effect_text}
use Rattle.sheet_text.specs.Written.{effect_lines, lines_in, written}
use Rattle.sheet_writer.specs.Saving.{six_listed, six_checked, if_whole, if_room, saving}
use Rattle.sheet_writer.specs.tables.Examples.{puts, offices, examples, Says}

-- 02, CR 2: every example, by computing it
pub examples_hold : All Says examples
unfolding examples Says puts offices saving if_whole if_room six_checked six_listed checked_from if_given effect_of limited value_of signed written lines_in effect_lines text_of member_text floor_text effect_text fields_text line_numbers member_keys floor_keys effect_keys joined signed_parts decimal digits_in last_digit lines_of column_of entries_of unpacked
examples_hold = more refl (more refl (more refl (more refl (more refl (more refl (more refl (more refl none)))))))
