-- What private functions count and sum over lines, and laws say.
-- Assumes nothing.
use Rattle.std.specs.Prelude.{◌≡◌, cond, List, [], ◌∷◌, ℕ, ◌≤◌, ◌<◌, length, sum_by}
use Rattle.column.specs.Line.{most_lines, unpacked}
use Rattle.std.specs.List.{All as Each}
use Rattle.lists.specs.Lists.{All}
use Rattle.column.specs.declared.Line.{Line}
use Rattle.column.specs.inner.Sound.{InLimits}
use Rattle.figure.specs.declared.shares.Shares.{Shares}
use Rattle.figure.specs.Carried.{is_formula_line}
use Rattle.figure.specs.inner.Shared.{figure_by}

-- the area that a line adds to the formula lines' area
unfoldable pub formula_area : Line → ℕ
formula_area l = cond (is_formula_line l) l.area.0 0

-- numbers that hold lines, at most `most_lines`, each within its limits, in whatever order
abbrev pub Lined : List ℕ → Type 0
Lined ns = (length ns ≤ most_lines) × Each (λ n. InLimits (unpacked n)) ns

-- the formula lines' area, and R × area by the shares at a floor, summed over lines
abbrev pub areas : List ℕ → ℕ
areas ns = sum_by (λ n. formula_area (unpacked n)) ns

abbrev pub figures : Shares → List ℕ → ℕ
figures s ns = sum_by (λ n. figure_by s (unpacked n)) ns

-- a line at a floor, one at it or above it, and one below it
abbrev pub At : ℕ → Line → Type 0
At f l = l.floor ≡ f

abbrev pub DownTo : ℕ → Line → Type 0
DownTo f l = l.floor ≤ f

abbrev pub Below : ℕ → Line → Type 0
Below f l = f < l.floor

-- lines of which none is above an earlier one
abbrev pub NotAbove : ℕ → Line → Type 0
NotAbove f l = f ≤ l.floor

pub data Ordered : List Line → Type 0 where
  empty : Ordered []
  first : {l : Line} {ls : List Line} → All (NotAbove l.floor) ls → Ordered ls → Ordered (l ∷ ls)
