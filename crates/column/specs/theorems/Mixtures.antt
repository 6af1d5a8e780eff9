-- Paper 02, "CR 1. A whole floor pasted in": every mixture of single entries and pastes is a list of entries.
-- Assumes nothing.
use Rattle.std.specs.Prelude.{◌≡◌, List, [], ◌∷◌, ◌++◌}
use Rattle.column.specs.declared.Line.{Line}
use Rattle.column.specs.declared.Member.{Member}
use Rattle.column.specs.declared.Column.{Column}
use Rattle.column.specs.Column.{opened_of, entered_of, after, Reached}
use Rattle.column.specs.Pasted.{pasted_of}
use Rattle.column.specs.theorems.Pasting.{pasted_entries}

-- 02, CR 1: a call that changes a column: one line is entered, or a list of lines is pasted in
pub data Call : Type 0 where
  entering : Line → Call
  pasting : List Line → Call

-- the column after a call, and after calls in order
unfoldable pub called : Column → Call → Column
called c (entering l) = (entered_of c l).column
called c (pasting lines) = (pasted_of c lines).column

unfoldable pub after_calls : Column → List Call → Column
after_calls c [] = c
after_calls c (k ∷ ks) = after_calls (called c k) ks

-- 02, CR 1: the entries that a call makes on a column: the line, or those lines of the list that are looked at
unfoldable pub entries_of_call : Column → Call → List Line
entries_of_call c (entering l) = l ∷ []
entries_of_call c (pasting lines) = pasted_entries c lines

-- the entries that calls make in order, each on the column that the one before it left
unfoldable pub entries_of_calls : Column → List Call → List Line
entries_of_calls c [] = []
entries_of_calls c (k ∷ ks) = entries_of_call c k ++ entries_of_calls (called c k) ks

-- 01, Reduced load and figure: so the column after calls is the one after a list of entries
unfoldable pub CallsAreEntries : Type 0
CallsAreEntries = (c : Column) (calls : List Call) → after_calls c calls ≡ after c (entries_of_calls c calls)

-- 01, Member, line, floor: "A column is always one that opening a member and the calls on it gave"; all of these are reached
unfoldable pub ReachedByCalls : Type 0
ReachedByCalls = (m : Member) (calls : List Call) → (opened_of m).number ≡ 0 → Reached (after_calls (opened_of m).column calls)
