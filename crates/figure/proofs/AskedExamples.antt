-- What asking gives at the floors of the paper's columns, by computing it. By its name it is checked before the laws, so that a
-- definition with another answer is refused for that answer.
-- Assumes nothing.
use Rattle.std.proofs.Common.{refl}
use Rattle.lists.specs.Lists.{All, none, more, keep, some, total}
use Rattle.member.specs.Member.{table4_2, table_factor}
use Rattle.member.specs.Line.{is_formula}
use Rattle.reduction.specs.Least.{least_from}
use Rattle.reduction.specs.Share.{one_floor, root_at_least, root_at_most, least_twentieths, formula_share, other_twentieths, share_of}
use Rattle.reduction.specs.Reduced.{reaches, reduced}
use Rattle.column.specs.Line.{entries_of}
use Rattle.figure.specs.Carried.{is_formula_line, formula_lines, carried, has_floor, floors_of, area_of, influence_from, influence_of}
use Rattle.figure.specs.Figure.{line_figure, figure_of}
use Rattle.figure.specs.Asked.{working_of, asked_of}
use Rattle.figure.specs.tables.Examples.{heavy_above, sample_sheet, cars_above, examples, Says}

-- 01, Figures to check against, The sheet and Wrong turns: every example
pub examples_hold : All Says examples
unfolding examples heavy_above sample_sheet cars_above Says entries_of asked_of working_of figure_of line_figure influence_from influence_of area_of floors_of has_floor carried formula_lines is_formula_line keep some total table_factor table4_2 share_of is_formula formula_share other_twentieths one_floor root_at_least root_at_most least_twentieths reduced reaches least_from
examples_hold = more refl (more refl (more refl (more refl (more refl (more refl none)))))
