-- Paper 01, "Figures to check against", "The sheet" and "Member, line, floor": lists and what the call over them gives, as
-- one table.
-- Assumes nothing.
use Rattle.std.specs.Prelude.{◌≡◌, List, [], ◌∷◌, ℕ}
use Rattle.refusal.specs.Said.{Told, gives, refused}
use Rattle.figure.specs.declared.Working.{Working}
use Rattle.column.specs.Column.{member_of}
use Rattle.column.specs.Line.{entries_of}
use Rattle.figure.specs.inner.Working.{working_from}
use Rattle.figure.specs.tables.Examples.{heavy_above, sample_sheet}
use Rattle.records.specs.Listed.{listed_of}

-- a member's code, its lines, four numbers a line, a floor, and the answer
pub data Example : Type 0 where
  example : ℕ → List ℕ → ℕ → Told ℕ Working → Example

-- n, X and the figure
abbrev pub working : ℕ → ℕ → ℕ → Told ℕ Working
working n x figure = gives (working_from n x figure)

-- the sample sheet's lines with a load beyond 50,000 in the second, and a class that is none in the third
unfoldable pub mistyped : List ℕ
mistyped = 1 ∷ 1 ∷ 2000 ∷ 1600 ∷ 2 ∷ 1 ∷ 200000 ∷ 1600 ∷ 3 ∷ 4 ∷ 2000 ∷ 1600 ∷ []

-- the figures that the paper prints; then the code before the lines, the first refused line before a later one and before the
-- floor, and the floor
unfoldable pub examples : List Example
examples =
    example 1 heavy_above 1 (working 1 0 60000000)
    ∷ example 1 heavy_above 2 (working 2 400 48200000)
    ∷ example 1 sample_sheet 1 (working 1 6400 2628800)
    ∷ example 1 sample_sheet 2 (working 2 12800 4185600)
    ∷ example 13 mistyped 9 (refused 1 0)
    ∷ example 1 mistyped 9 (refused 5 2)
    ∷ example 1 sample_sheet 9 (refused 7 0)
    ∷ example 1 [] 1 (refused 7 0)
    ∷ []

-- what an example says
unfoldable pub Says : Example → Type 0
Says (example code entries f answer) = listed_of (member_of code) (entries_of entries) f ≡ answer
