-- What follows from the shares at a floor for a line.
-- Assumes nothing.
use Rattle.std.specs.Prelude.{◌≡◌, ℕ}
use Rattle.reduction.specs.declared.InfluenceArea.{InfluenceArea}
use Rattle.reduction.specs.Share.{share_of}
use Rattle.reduction.specs.Reduced.{reduced}
use Rattle.column.specs.declared.Line.{Line}
use Rattle.figure.specs.declared.shares.Shares.{Shares}
use Rattle.figure.specs.Figure.{line_figure}

-- the shares are those at n floors and the influence area x
abbrev pub SharesOf : ℕ → InfluenceArea → Shares → Type 0
SharesOf n x s = (s.carried.floors ≡ n) × (s.carried.influence ≡ x)

-- R of a formula line, which has class 1, and R × area of a line
abbrev pub formula_load : Shares → ℕ → ℕ
formula_load s load = reduced (share_of load 1 s.carried.floors s.carried.influence) load

abbrev pub figure_by : Shares → Line → ℕ
figure_by s = line_figure s.carried.floors s.carried.influence
