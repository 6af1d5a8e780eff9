-- Paper 01, "Member, line, floor": the call over a list, tied to opening a member, entering the lines and asking at the floor.
-- Assumes nothing.
use Rattle.std.specs.Prelude.{◌≡◌, cond, ◌||◌, List, ℕ, ◌+◌, ◌≤◌, eqb, length}
use Rattle.refusal.specs.Said.{Told, gives, refused}
use Rattle.column.specs.declared.Line.{Line}
use Rattle.column.specs.declared.Member.{Member}
use Rattle.figure.specs.declared.Working.{Working}
use Rattle.column.specs.Column.{opened_of, entered_of, after}
use Rattle.column.specs.Pasted.{pasted_of}
use Rattle.column.specs.theorems.Entering.{NoneRefused, Stops}
use Rattle.figure.specs.Asked.{asked}
use Rattle.records.specs.Listed.{at_place, listed_of}

-- 01, Member, line, floor: the code is checked before the lines and the floor, and its place is 0
unfoldable pub AtOpening : Type 0
AtOpening = (m : Member) (lines : List Line) (f : ℕ) → 1 ≤ (opened_of m).number
    → listed_of m lines f ≡ refused (opened_of m).number 0

-- 01, Member, line, floor: "a list with a refused line gives the number and place of the first one", whatever the floor
unfoldable pub AtFirst : Type 0
AtFirst = (m : Member) (lines : List Line) (f : ℕ) → (opened_of m).number ≡ 0 → (s : Stops (opened_of m).column lines)
    → listed_of m lines f ≡ refused (entered_of (after (opened_of m).column s.before) s.line).number (length s.before + 1)

-- 01, Member, line, floor: where no line is refused, the answer is that of opening the member, entering all and asking, and the
-- place of the floor's refusal is 0
unfoldable pub AsEntered : Type 0
AsEntered = (m : Member) (lines : List Line) (f : ℕ) → (opened_of m).number ≡ 0 → NoneRefused (opened_of m).column lines
    → listed_of m lines f ≡ at_place 0 (asked (after (opened_of m).column lines) f)

-- 02, CR 1: so the call is opening the member, pasting the lines and asking; the refused line is the one behind those kept
unfoldable pub AsPasted : Type 0
AsPasted = (m : Member) (lines : List Line) (f : ℕ) → (opened_of m).number ≡ 0
    → listed_of m lines f
    ≡ (let p = pasted_of (opened_of m).column lines in
    cond {A = Told ℕ Working} (eqb p.number 0) (at_place 0 (asked p.column f)) (refused p.number (p.kept + 1)))

-- 01, Member, line, floor: "the place is 0 for numbers 1 and 7", and for no other
unfoldable pub PlaceZero : Type 0
PlaceZero = (m : Member) (lines : List Line) (f n place : ℕ) → listed_of m lines f ≡ refused n place
    → eqb place 0 ≡ (eqb n 1 || eqb n 7)

-- 01, Member, line, floor: ".. and no figure": where one is given, the member is opened and no line is refused
unfoldable pub FigureOfAll : Type 0
FigureOfAll = (m : Member) (lines : List Line) (f : ℕ) (w : Working) → listed_of m lines f ≡ gives w
    → ((opened_of m).number ≡ 0) × NoneRefused (opened_of m).column lines
