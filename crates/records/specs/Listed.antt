-- Paper 01, "Member, line, floor": the list of records that the office program lends, and what the call over it gives.
-- Assumes nothing.
use Rattle.std.specs.Prelude.{◌≡◌, cond, List, [], ◌∷◌, ◌++◌, ℕ, ◌+◌, eqb, length}
use Rattle.refusal.specs.Said.{Told, gives, refused, Said}
use Rattle.column.specs.declared.Line.{Line}
use Rattle.column.specs.declared.Member.{Member}
use Rattle.figure.specs.declared.Working.{Working}
use Rattle.figure.specs.Carried.{carried}
use Rattle.column.specs.Accepted.{entry_number}
use Rattle.column.specs.Column.{opened_of}
use Rattle.figure.specs.Asked.{asked_of}
use Rattle.error_bound.specs.Claim.{Bounded}

-- 01, Member, line, floor: a refusal comes with a place
unfoldable pub at_place : {A : Type 0} → ℕ → Said A → Told ℕ A
at_place place (gives a) = gives a
at_place place (refused n _) = refused n place

-- 01, Member, line, floor: the lines in order, each as entering it would check it, where these lines are accepted so far. The
-- first refused line gives its number and its place, one more than the lines before it, which are all accepted; after the
-- last line the floor that is wanted is asked at, and the place is 0
unfoldable pub listed_from : Member → List Line → List Line → ℕ → Told ℕ Working
listed_from m ls [] f = at_place 0 (asked_of m ls f)
listed_from m ls (l ∷ rest) f =
    cond (eqb (entry_number m ls l) 0)
    (listed_from m (ls ++ (l ∷ [])) rest f)
    (refused (entry_number m ls l) (length ls + 1))

-- 01, Member, line, floor: "Such a call checks the code, then the lines, then the floor that is wanted"
unfoldable pub listed_of : Member → List Line → ℕ → Told ℕ Working
listed_of m lines f =
    cond (eqb (opened_of m).number 0)
    (listed_from m [] lines f)
    (refused (opened_of m).number 0)

-- 01, Reduced load and figure: E ≤ F < E + A holds of a figure F that the call gives, over the lines of the list that are
-- carried at the floor
unfoldable pub Bounds : Member → List Line → ℕ → Told ℕ Working → Type 0
Bounds m lines f answer = (w : Working) → answer ≡ gives w → Bounded m (carried f lines) w.figure
