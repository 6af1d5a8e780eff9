-- What takedown prints for paper 01's sample sheet, and for refused sheets, by computing it.
-- Assumes nothing.
use Rattle.std.proofs.Common.{refl}
use Rattle.text.specs.Text.{joined, last_digit, digits_in, decimal, signed_parts}
use Rattle.text.specs.Lines.{text_of, with_byte, split}
use Rattle.lists.specs.Lists.{All, none, more, keep, some, total}
use Rattle.reduction.specs.Least.{least_from}
use Rattle.member.specs.Member.{table4_2, table_factor}
use Rattle.member.specs.Line.{is_formula}
use Rattle.reduction.specs.Share.{one_floor, root_at_least, root_at_most, least_twentieths, formula_share, other_twentieths, share_of}
use Rattle.reduction.specs.Reduced.{reaches, reduced}
use Rattle.column.specs.Line.{entries_of, unpacked}
use Rattle.figure.specs.Carried.{is_formula_line, formula_lines, carried, has_floor, floors_of, area_of, influence_from, influence_of}
use Rattle.figure.specs.Figure.{line_figure, figure_of}
use Rattle.column.specs.Accepted.{last_floor, first_condition, entry_number}
use Rattle.column.specs.Column.{lines_of, column_of, opened_of, entered_of}
use Rattle.figure.specs.Asked.{working_of, asked_of}
use Rattle.figure.specs.Lowest.{lowest_figure}
use Rattle.newtons.specs.Effect.{signed}
use Rattle.effects.specs.Check.{place_of, newtons_of}
use Rattle.combination.specs.Factors.{combinations, factor_in, factors}
use Rattle.combination.specs.Governing.{sum_of, sums, better, best_from, best}
use Rattle.combination.specs.Combine.{governing}
use Rattle.sheet_lines.specs.Number.{may_grow, number_ended, number_from, number_at, begins, field_at}
use Rattle.refusal.specs.Refusal.{number_of}
use Rattle.sheet_lines.specs.Form.{member_keys, floor_keys, effect_keys, with_number, fields_from, member_form, line_from, floor_form, effect_end, effect_form, is_floor, later_form, form_of, said_form, line_said}
use Rattle.sheet.specs.Sheet.{is_complete, if_taken, effect_number, valued, line_taken, if_read, read_from, read_sheet}
use Rattle.report.specs.Report.{effects_with, floor_line, floor_line_of, floor_lines, live_of, effects_of, governing_line, governing_lines, takedown_of, refusal_line, put_of, refusal_text, report_of}
use Rattle.report.specs.tables.Examples.{sample, sample_report, examples, Says}

-- 01, The sheet: every example
pub examples_hold : All Says examples
unfolding examples sample sample_report text_of Says report_of put_of refusal_text takedown_of refusal_line governing_lines governing_line effects_of effects_with live_of lowest_figure floor_lines floor_line_of floor_line read_sheet read_from if_read line_taken valued effect_number if_taken is_complete split with_byte line_said said_form number_of form_of later_form is_floor effect_form effect_end floor_form line_from member_form fields_from with_number member_keys floor_keys effect_keys field_at begins number_at number_from number_ended may_grow governing best best_from better sums sum_of factors combinations factor_in place_of newtons_of signed asked_of working_of entered_of opened_of column_of entries_of unpacked lines_of entry_number first_condition last_floor figure_of line_figure influence_from influence_of area_of floors_of has_floor carried formula_lines is_formula_line keep some total table_factor table4_2 share_of is_formula formula_share other_twentieths one_floor root_at_least root_at_most least_twentieths reduced reaches least_from decimal signed_parts joined digits_in last_digit
examples_hold = more refl (more refl (more refl (more refl (more refl (more refl none)))))
