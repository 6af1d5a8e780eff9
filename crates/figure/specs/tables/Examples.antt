-- Paper 01, "Figures to check against", "The sheet", "Wrong turns": accepted lines and what asking of them gives, as one table.
-- Assumes nothing.
use Rattle.std.specs.Prelude.{◌≡◌, List, [], ◌∷◌, ℕ}
use Rattle.refusal.specs.Said.{Said, gives, refused, nothing}
use Rattle.column.specs.Column.{member_of}
use Rattle.column.specs.Line.{entries_of}
use Rattle.figure.specs.declared.Working.{Working}
use Rattle.figure.specs.inner.Working.{working_from}
use Rattle.figure.specs.Asked.{asked_of}

-- a member's code, its accepted lines, four numbers a line, a floor, and the answer
pub data Example : Type 0 where
  example : ℕ → List ℕ → ℕ → Said Working → Example

-- n, X and the figure
abbrev pub working : ℕ → ℕ → ℕ → Said Working
working n x figure = gives (working_from n x figure)

-- 01, Figures to check against: 6,000 on 10,000 dm² at floor 1 and 2,000 on 100 dm² at floor 2
unfoldable pub heavy_above : List ℕ
heavy_above = 1 ∷ 1 ∷ 6000 ∷ 10000 ∷ 2 ∷ 1 ∷ 2000 ∷ 100 ∷ []

-- 01, The sheet: 2,000 on 1,600 dm² at each of two floors
unfoldable pub sample_sheet : List ℕ
sample_sheet = 1 ∷ 1 ∷ 2000 ∷ 1600 ∷ 2 ∷ 1 ∷ 2000 ∷ 1600 ∷ []

-- 01, Wrong turns: cars above, of which no area is in X, over the sample's top line
unfoldable pub cars_above : List ℕ
cars_above = 1 ∷ 2 ∷ 2500 ∷ 1000 ∷ 2 ∷ 1 ∷ 2000 ∷ 1600 ∷ []

-- 01, Figures to check against, where the figure falls and where no line has the floor; The sheet; Wrong turns
unfoldable pub examples : List Example
examples =
    example 1 heavy_above 1 (working 1 0 60000000)
    ∷ example 1 heavy_above 2 (working 2 400 48200000)
    ∷ example 1 heavy_above 3 (refused 7 nothing)
    ∷ example 1 sample_sheet 1 (working 1 6400 2628800)
    ∷ example 1 sample_sheet 2 (working 2 12800 4185600)
    ∷ example 1 cars_above 2 (working 2 6400 4628800)
    ∷ []

-- what an example says
unfoldable pub Says : Example → Type 0
Says (example code lines f answer) = asked_of (member_of code) (entries_of lines) f ≡ answer
