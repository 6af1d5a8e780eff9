-- Paper 01, "The sheet": the figure at the last floor, which is the lowest.
-- Assumes nothing.
use Rattle.std.specs.Prelude.{List, ℕ}
use Rattle.column.specs.declared.Line.{Line}
use Rattle.column.specs.declared.Member.{Member}
use Rattle.column.specs.Accepted.{last_floor}
use Rattle.figure.specs.Carried.{carried}
use Rattle.figure.specs.Figure.{figure_of}

-- 01, The sheet: "the figure at the last floor", that of the last accepted line; 0 without lines, since then none is carried
unfoldable pub lowest_figure : Member → List Line → ℕ
lowest_figure m ls = figure_of m (carried (last_floor ls) ls)
