-- Paper 01, "Member, line, floor" and "Numbers by the place of checking": a column, and what opening and entering give.
-- Assumes nothing.
use Rattle.std.specs.Prelude.{◌≡◌, cond, List, [], ◌∷◌, ◌++◌, map, ℕ, ◌-◌, eqb, length, take, replicate, Result, Ok, Err}
use Rattle.refusal.specs.declared.Refusal.{Refusal}
use Rattle.refusal.specs.Refusal.{number_of}
use Rattle.refusal.specs.Said.{number_told}
use Rattle.member.specs.Between.{between}
use Rattle.column.specs.declared.Line.{Line}
use Rattle.column.specs.declared.Member.{Member}
use Rattle.column.specs.declared.Column.{Column}
use Rattle.column.specs.Line.{most_lines, packed, unpacked}
use Rattle.column.specs.Accepted.{entry_number}

-- 01, Reduced load and figure: the accepted lines of a column, in order
unfoldable pub lines_of : Column → List Line
lines_of c = map unpacked (take c.count c.held)

-- 01, Reduced load and figure: the column of a member with these accepted lines. How it holds them is not of the paper: first
-- each as one number, then unused places
unfoldable pub column_of : Member → List Line → Column
column_of m ls = record { member = m; count = length ls; held = map packed ls ++ replicate (most_lines - length ls) 0 }

-- No part of the paper: the column that a member, a count of lines and its places make, which a call in place takes instead
-- of the column
abbrev pub column_from : Member → ℕ → List ℕ → Column
column_from m n places = record { member = m; count = n; held = places }

-- 01, Member, line, floor: "A member has a code"; the member of a code
abbrev pub member_of : ℕ → Member
member_of code = record { code = code }

-- No part of the paper: what stands in the column's place where opening is refused; it is not reached
-- (`unopened_not_reached`), so no call takes it
abbrev pub unopened : Column
unopened = column_of (member_of 0) []

-- 01, Numbers by the place of checking: an outcome, the number of the first condition that holds, 0 where none does, and the
-- column then
pub record Outcome : Type 0 where
  pub number : ℕ
  pub column : Column

-- 01, Numbers by the place of checking: opening a member; 1 where the code is not 1 to 12
unfoldable pub opened_of : Member → Outcome
opened_of m =
    cond (between 1 12 m.code)
    (record { number = 0; column = column_of m [] })
    (record { number = 1; column = unopened })

-- 01, Numbers by the place of checking: entering a line; the column is then as before where a condition holds
unfoldable pub entered_of : Column → Line → Outcome
entered_of c l =
    let n = entry_number c.member (lines_of c) l in
    record { number = n; column = cond (eqb n 0) (column_of c.member (lines_of c ++ (l ∷ []))) c }

-- 01, Reduced load and figure: the column after a list of entries, each entered on what the one before it left
unfoldable pub after : Column → List Line → Column
after c [] = c
after c (e ∷ es) = after (entered_of c e).column es

-- 01, Member, line, floor: a column is always one that opening a member and the calls on it gave
pub record Reached (c : Column) : Type 0 where
  pub member : Member
  pub entries : List Line
  pub opened : (opened_of member).number ≡ 0
  pub is : c ≡ after (opened_of member).column entries

-- No part of the paper: the outcome of opening, where what is given stands for a column
unfoldable pub opened_as : {A : Type 0} → (A → Column) → Result A Refusal → Outcome
opened_as column (Ok a) = record { number = 0; column = column a }
opened_as column (Err r) = record { number = number_of r; column = unopened }

-- No part of the paper: how many lines are held after entering in place
unfoldable pub count_after : ℕ → Result ℕ Refusal → ℕ
count_after n (Ok k) = k
count_after n (Err r) = n

-- No part of the paper: the outcome of entering in place, which leaves the column that the member, the count and the places
-- then make
unfoldable pub entered_outcome : Member → ℕ → Result ℕ Refusal → List ℕ → Outcome
entered_outcome m n r places = record { number = number_told r; column = column_from m (count_after n r) places }
