-- The figures that paper 01 prints for two columns hold, and the other tables of examples.
-- Assumes nothing.
use Rattle.std.proofs.Common.{refl}
use Rattle.reduction.specs.Least.{least_from}
use Rattle.lists.specs.Lists.{All, none, more, keep, some, total}
use Rattle.member.specs.Member.{table4_2, table_factor}
use Rattle.member.specs.Line.{is_formula}
use Rattle.reduction.specs.Share.{one_floor, root_at_least, root_at_most, least_twentieths, formula_share, other_twentieths, share_of}
use Rattle.reduction.specs.Reduced.{reaches, reduced}
use Rattle.column.specs.Line.{entries_of, unpacked}
use Rattle.figure.specs.Carried.{is_formula_line, formula_lines, other_lines, carried, has_floor, floors_of, area_of, influence_from, influence_of}
use Rattle.figure.specs.Figure.{line_figure, figure_of}
use Rattle.column.specs.Accepted.{last_floor, first_condition, entry_number, joined, accepted_from}
use Rattle.column.specs.Column.{lines_of, column_of, opened_of, entered_of, after}
use Rattle.figure.specs.Asked.{working_of, asked_of}
use Rattle.error_bound.specs.Entries.{asked_after, numbers_from, refused_count, first_number, first_place, refusals_of, refusals_after}
use Rattle.error_bound.specs.Claim.{formula_total, twenty_p}
use Rattle.figure.specs.tables.Examples.{heavy_above, sample_sheet}
use Rattle.error_bound.specs.tables.Examples.{mixed, mistyped, garage_above, examples, Says}
use Rattle.error_bound.specs.tables.Examples.{refusing_examples, SaysRefusing, carried_of}
use Rattle.error_bound.specs.tables.Examples.{SampleNumbers, squared_of, squares, SaysSquared}

-- 01, Figures to check against and The sheet: every example, by computing it
pub examples_hold : All Says examples
unfolding examples heavy_above sample_sheet mixed mistyped garage_above Says asked_after entries_of unpacked opened_of entered_of after column_of lines_of asked_of working_of entry_number first_condition last_floor figure_of line_figure influence_from influence_of area_of floors_of has_floor carried formula_lines is_formula_line keep some total table_factor table4_2 share_of is_formula formula_share other_twentieths one_floor root_at_least root_at_most least_twentieths reduced reaches least_from
examples_hold = more refl (more refl (more refl (more refl (more refl (more refl (more refl (more refl (more refl (more refl (more refl none))))))))))

-- every list with refused entries
pub refusing_hold : All SaysRefusing refusing_examples
unfolding refusing_examples sample_sheet mistyped SaysRefusing refusals_after refusals_of numbers_from refused_count first_number first_place entries_of opened_of joined entry_number first_condition last_floor
refusing_hold = more refl (more refl (more refl none))

-- 01, Reduced load and figure: the sample's squares
pub sample_numbers : SampleNumbers (carried_of 1 sample_sheet 2)
unfolding sample_sheet entries_of accepted_from joined entry_number first_condition last_floor carried keep formula_share root_at_least root_at_most least_twentieths one_floor formula_total twenty_p other_lines formula_lines is_formula_line is_formula floors_of has_floor some influence_of influence_from table_factor table4_2 area_of total
sample_numbers = record { X = refl; share = refl; T = refl; P20 = refl; A = refl; square = refl }

pub squares_hold : All SaysSquared squares
unfolding squares squared_of SaysSquared sample_sheet entries_of accepted_from joined entry_number first_condition last_floor carried keep formula_total twenty_p other_lines formula_lines is_formula_line is_formula floors_of has_floor some influence_of influence_from table_factor table4_2 area_of total
squares_hold = more refl (more refl (more refl none))
