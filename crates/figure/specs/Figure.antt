-- Paper 01, "Reduced load and figure": the figure of the lines carried.
-- Assumes nothing.
use Rattle.std.specs.Prelude.{List, ℕ, ◌*◌}
use Rattle.reduction.specs.declared.InfluenceArea.{InfluenceArea}
use Rattle.reduction.specs.Share.{share_of}
use Rattle.reduction.specs.Reduced.{reduced}
use Rattle.column.specs.declared.Line.{Line}
use Rattle.column.specs.declared.Member.{Member}
use Rattle.lists.specs.Lists.{total}
use Rattle.figure.specs.Carried.{floors_of, influence_of}

-- 01, Reduced load and figure: R × area of a line, in hundredths of a newton
unfoldable pub line_figure : ℕ → InfluenceArea → Line → ℕ
line_figure n x l = reduced (share_of l.load l.class n x) l.load * l.area.0

-- 01, Reduced load and figure: the figure, the sum of R × area over the lines carried
unfoldable pub figure_of : Member → List Line → ℕ
figure_of m ls = total (line_figure (floors_of ls) (influence_of m ls)) ls
