-- Paper 01, "Numbers by the place of checking": which numbers an entry can have.
-- Assumes nothing.
use Rattle.std.specs.Prelude.{◌≡◌, true, List, [], ◌∷◌, ℕ, eqb}
use Rattle.lists.specs.Lists.{some}
use Rattle.column.specs.declared.Line.{Line}
use Rattle.column.specs.declared.Member.{Member}
use Rattle.column.specs.Accepted.{entry_number}

-- 01, Numbers by the place of checking: the numbers of "Entering a line, in this order"
abbrev pub entry_numbers : List ℕ
entry_numbers = 2 ∷ 3 ∷ 4 ∷ 5 ∷ 6 ∷ []

-- an entry has one of them, or 0 where no condition holds
unfoldable pub OnlyEntryNumbers : Type 0
OnlyEntryNumbers = (m : Member) (ls : List Line) (l : Line) → some (eqb (entry_number m ls l)) (0 ∷ entry_numbers) ≡ true

-- 01, Member, line, floor: "the place is 0 for numbers 1 and 7", of which an entry has neither
unfoldable pub NeitherOneNorSeven : Type 0
NeitherOneNorSeven = (m : Member) (ls : List Line) (l : Line) → (entry_number m ls l ≡ 1 → ⊥) × (entry_number m ls l ≡ 7 → ⊥)
