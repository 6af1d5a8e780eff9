-- An entry has one of the numbers for entering a line, or 0, and so neither that of opening nor that of asking.
-- Assumes nothing.
use Rattle.std.proofs.Common.{◌≡◌, refl, sym, ◌∙◌, ap, Bool, true, false, cond, not, ◌||◌, List, ◌∷◌, ℕ, leb, ltb, eqb, length}
use Rattle.std.proofs.lemmas.Bool.{false≢true}
use Rattle.lists.specs.Lists.{some}
use Rattle.lists.proofs.Tests.{cases}
use Rattle.member.specs.Between.{between}
use Rattle.column.specs.declared.Line.{Line}
use Rattle.column.specs.declared.Member.{Member}
use Rattle.column.specs.Accepted.{last_floor, first_condition, entry_number}
use Rattle.column.specs.theorems.EntryNumbers.{entry_numbers, OnlyEntryNumbers, NeitherOneNorSeven}

-- a number by a condition is among them where it and that of the later ones are
among : (b : Bool) (n later : ℕ) → some (eqb n) (0 ∷ entry_numbers) ≡ true → some (eqb later) (0 ∷ entry_numbers) ≡ true
    → some (eqb (cond b n later)) (0 ∷ entry_numbers) ≡ true
among b n later h k = cases (λ (t : Bool). some (eqb (cond t n later)) (0 ∷ entry_numbers) ≡ true) b (λ e. h) (λ e. k)

-- 01, Numbers by the place of checking: the numbers that an entry can have
pub only_entry_numbers : OnlyEntryNumbers
unfolding OnlyEntryNumbers entry_number first_condition some
only_entry_numbers m ls l =
    among (leb 256 (length ls)) 2 _ refl
    (among (not (between 1 64 l.floor) || ltb l.floor (last_floor ls)) 3 _ refl
    (among (not (between 1 3 l.class)) 4 _ refl
    (among (not (between 1 50000 l.load)) 5 _ refl
    (among (not (between 1 200000 l.area.0)) 6 0 refl refl))))

-- a number that is not among them is no entry's
pub not_an_entry's : (m : Member) (ls : List Line) (l : Line) (n : ℕ) → some (eqb n) (0 ∷ entry_numbers) ≡ false → entry_number m ls l ≡ n → ⊥
unfolding OnlyEntryNumbers
not_an_entry's m ls l n h e =
    false≢true (sym h ∙ (ap (λ (k : ℕ). some (eqb k) (0 ∷ entry_numbers)) (sym e) ∙ only_entry_numbers m ls l))

-- 01, Member, line, floor: neither is the opening's, nor asking's
pub neither_one_nor_seven : NeitherOneNorSeven
unfolding NeitherOneNorSeven some
neither_one_nor_seven m ls l = (not_an_entry's m ls l 1 refl, not_an_entry's m ls l 7 refl)
