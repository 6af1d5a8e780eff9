-- Paper 01, "Reduced load and figure": the accepted lines, from the member and the entries alone.
-- Assumes nothing.
use Rattle.std.specs.Prelude.{cond, not, ◌||◌, List, [], ◌∷◌, ◌++◌, ℕ, leb, ltb, eqb, length}
use Rattle.member.specs.Between.{between}
use Rattle.column.specs.declared.Line.{Line}
use Rattle.column.specs.declared.Member.{Member}
use Rattle.column.specs.Line.{most_lines, lowest_floor}

-- 01, Numbers by the place of checking: the floor of the last accepted line; 0 where there is none, which no floor is below
unfoldable pub last_floor : List Line → ℕ
last_floor [] = 0
last_floor (l ∷ []) = l.floor
last_floor (l ∷ (k ∷ ls)) = last_floor (k ∷ ls)

-- 01, Numbers by the place of checking: entering a line, the number of the first condition that holds; 0 where none does.
-- The count and the last floor are those of the accepted lines so far; no condition of 01 looks at the member
unfoldable pub first_condition : Member → ℕ → ℕ → Line → ℕ
first_condition m count last l =
    cond (leb most_lines count) 2
    (cond (not (between 1 lowest_floor l.floor) || ltb l.floor last) 3
    (cond (not (between 1 3 l.class)) 4
    (cond (not (between 1 50000 l.load)) 5
    (cond (not (between 1 200000 l.area.0)) 6
    0))))

-- 01, Reduced load and figure: the number of an entry, where these lines are accepted so far
unfoldable pub entry_number : Member → List Line → Line → ℕ
entry_number m ls l = first_condition m (length ls) (last_floor ls) l

-- 01, Reduced load and figure: where no condition holds the line "joins the end of the accepted lines", else they stay
unfoldable pub joined : Member → List Line → Line → List Line
joined m ls l = cond (eqb (entry_number m ls l) 0) (ls ++ (l ∷ [])) ls

-- 01, Reduced load and figure: take the entries in order
unfoldable pub accepted_from : Member → List Line → List Line → List Line
accepted_from m ls [] = ls
accepted_from m ls (e ∷ es) = accepted_from m (joined m ls e) es

-- 01, Reduced load and figure: the accepted lines; a freshly opened column has none
abbrev pub accepted : Member → List Line → List Line
accepted m entries = accepted_from m [] entries
