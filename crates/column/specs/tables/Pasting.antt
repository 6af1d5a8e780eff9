-- Paper 02, "CR 1. A whole floor pasted in": lists and what pasting them gives, as one table.
-- Assumes nothing.
use Rattle.std.specs.Prelude.{◌≡◌, List, [], ◌∷◌, ◌++◌, ℕ}
use Rattle.column.specs.Line.{entries_of}
use Rattle.column.specs.Column.{column_of, member_of, opened_of, after}
use Rattle.column.specs.Pasted.{pasted_of}

-- what a column of code 1 holds and what is pasted on it, four numbers a line, the number, how many lines are kept, and the
-- lines then held
pub data Example : Type 0 where
  example : List ℕ → List ℕ → ℕ → ℕ → List ℕ → Example

-- two offices, one above the other
unfoldable pub above : List ℕ
above = 1 ∷ 1 ∷ 2000 ∷ 1600 ∷ []

unfoldable pub below : List ℕ
below = 2 ∷ 1 ∷ 2000 ∷ 1600 ∷ []

-- lines at the second floor with a class that there is not, and with a load and an area beyond their limits
unfoldable pub no_class : List ℕ
no_class = 2 ∷ 4 ∷ 2000 ∷ 1600 ∷ []

unfoldable pub over_load : List ℕ
over_load = 2 ∷ 1 ∷ 200000 ∷ 1600 ∷ []

unfoldable pub over_area : List ℕ
over_area = 2 ∷ 1 ∷ 2000 ∷ 200001 ∷ []

-- no line; all kept, and beside lines that are held; the last, the first and one in the middle refused, behind which a line
-- that would be accepted and one with another number are not looked at; and a first line above the last one held
unfoldable pub examples : List Example
examples =
    example [] [] 0 0 []
    ∷ example [] (above ++ below) 0 2 (above ++ below)
    ∷ example (above ++ above) (below ++ below) 0 2 (above ++ (above ++ (below ++ below)))
    ∷ example [] (above ++ over_load) 5 1 above
    ∷ example above (no_class ++ (below ++ over_area)) 4 0 above
    ∷ example above (below ++ (over_area ++ (below ++ over_load))) 6 1 (above ++ below)
    ∷ example below (above ++ below) 3 0 below
    ∷ []

-- what an example says
unfoldable pub Says : Example → Type 0
Says (example held lines number kept then) =
    pasted_of (after (opened_of (member_of 1)).column (entries_of held)) (entries_of lines)
    ≡ record { number = number; kept = kept; column = column_of (member_of 1) (entries_of then) }
