-- The sample's lines say what the paper's sample says, and others have not the form, by computing it.
-- Assumes nothing.
use Rattle.std.proofs.Common.{refl}
use Rattle.lists.specs.Lists.{All, none, more}
use Rattle.refusal.specs.Refusal.{number_of}
use Rattle.newtons.specs.Effect.{signed}
use Rattle.sheet_lines.specs.Number.{may_grow, number_ended, number_from, number_at, begins, field_at}
use Rattle.sheet_lines.specs.Form.{member_keys, floor_keys, effect_keys, with_number, fields_from, member_form, line_from, floor_form, effect_end, effect_form, is_floor, later_form, form_of, said_form, line_said}
use Rattle.sheet_lines.specs.tables.Examples.{examples, Holds}

-- 01, The sheet: every line of the sample, and lines without the form
pub examples_hold : All Holds examples
unfolding examples line_said said_form number_of form_of later_form is_floor effect_form effect_end floor_form line_from member_form fields_from with_number member_keys floor_keys effect_keys field_at begins number_at number_from number_ended may_grow signed
examples_hold = more refl (more refl (more refl (more refl (more refl (more refl (more refl (more refl (more refl (more refl (more refl none))))))))))
