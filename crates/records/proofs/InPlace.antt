-- Lines entered in place, each on what the one before it left: the answer after them is that of the list.
-- Assumes nothing.
use Rattle.std.proofs.Common.{◌≡◌, refl, sym, ◌∙◌, ap, Bool, cond, List, [], ◌∷◌, ◌++◌, ℕ, ◌+◌, ◌≤◌, eqb, length}
use Rattle.refusal.specs.Said.{Told, refused}
use Rattle.refusal.proofs.Said.{by_number, not_zero}
use Rattle.member.proofs.Tests.{limits}
use Rattle.column.specs.declared.Line.{Line}
use Rattle.column.specs.declared.Member.{Member}
use Rattle.column.specs.declared.Column.{Column}
use Rattle.column.specs.Accepted.{entry_number}
use Rattle.column.specs.inner.Sound.{no_places}
use Rattle.column.specs.Column.{Outcome, column_of, column_from, opened_of, entered_of, Reached}
use Rattle.column.proofs.Columns.{column_lines}
use Rattle.column.specs.theorems.InTurn.{Holdable}
use Rattle.column.proofs.Reach.{holdable_none, holdable_more, entered_refused, opened_code, opened_column, opened_refused, given_reached}
use Rattle.figure.specs.declared.Working.{Working}
use Rattle.figure.specs.Asked.{asked, asked_of}
use Rattle.records.specs.Listed.{at_place, listed_from, listed_of}
use Rattle.records.proofs.Answers.{listed_opened, listed_unopened, column_entered, listed_on, listed_stop}

-- all the lines in order; after a refusal nothing changes
unfoldable pub entered_all : Outcome → List Line → Outcome
entered_all o [] = o
entered_all o (l ∷ ls) = cond {A = Outcome} (eqb o.number 0) (entered_all (entered_of o.column l) ls) o

-- the place of a refusal: 0 where opening was refused, which leaves a member of code 0, else one more than the lines held
abbrev pub place_of : Member → ℕ → ℕ
place_of m count = cond (eqb m.code 0) 0 (count + 1)

-- after the lines: a refusal with its place, or what asking at the floor gives
unfoldable pub answer_of : Outcome → ℕ → Told ℕ Working
answer_of o f =
    cond {A = Told ℕ Working} (eqb o.number 0)
    (at_place 0 (asked o.column f))
    (refused o.number (place_of o.column.member o.column.count))

module _ (o : Outcome) where
  -- while nothing is refused a line is entered, and the others follow
  pub enters : {p end : Outcome} (l : Line) (ls : List Line) → o.number ≡ 0 → p ≡ entered_of o.column l → entered_all o (l ∷ ls) ≡ end → entered_all p ls ≡ end
  unfolding entered_all
  enters l ls z e h =
      ap (λ (u : Outcome). entered_all u ls) e
      ∙ (ap (λ (n : ℕ). cond {A = Outcome} (eqb n 0) (entered_all (entered_of o.column l) ls) o) (sym z) ∙ h)

  -- after a refusal the rest of a list changes nothing
  pub stays : (ls : List Line) → 1 ≤ o.number → entered_all o ls ≡ o
  unfolding entered_all
  stays [] h = refl
  stays (l ∷ ls) h = ap (λ (b : Bool). cond {A = Outcome} b (entered_all (entered_of o.column l) ls) o) (not_zero h)

-- ---- the answer

module _ (m : Member) (opened : (opened_of m).number ≡ 0) where
  -- a refused line ends the list with its number and place
  module _ (ls : List Line) (l : Line) where
    column_refused : Holdable ls → 1 ≤ entry_number m ls l → entered_of (column_of m ls) l ≡ record { number = entry_number m ls l; column = column_of m ls }
    unfolding column_of
    column_refused k h = entered_refused (column_of m ls) l (entry_number m ls l) h (ap (λ (ks : List Line). entry_number m ks l) (column_lines m ls k.lines))

    stop_answer : (f : ℕ) → 1 ≤ entry_number m ls l → answer_of (record { number = entry_number m ls l; column = column_of m ls }) f ≡ refused (entry_number m ls l) (length ls + 1)
    unfolding answer_of column_of
    stop_answer f h = rw (not_zero h, not_zero (limits 1 12 m.code (opened_code m opened)).0)

  -- entering the lines of a list, from the column of some lines on, answers as the list does
  along : (ls lines : List Line) (f : ℕ) → Holdable ls → answer_of (entered_all (record { number = 0; column = column_of m ls }) lines) f ≡ listed_from m ls lines f
  unfolding answer_of entered_all listed_from column_of
  along ls [] f k = ap (λ (ks : List Line). at_place 0 (asked_of m ks f)) (column_lines m ls k.lines)
  along ls (l ∷ lines) f k =
      by_number (entry_number m ls l)
      (λ z. ap (λ (u : Outcome). answer_of (entered_all u lines) f) (column_entered m ls l k z)
      ∙ (along (ls ++ (l ∷ [])) lines f (holdable_more m ls l k z) ∙ sym (listed_on m ls l lines f z)))
      (λ h. ap (λ (u : Outcome). answer_of (entered_all u lines) f) (column_refused ls l k h)
      ∙ (ap (λ (u : Outcome). answer_of u f) (stays (record { number = entry_number m ls l; column = column_of m ls }) lines h)
      ∙ (stop_answer ls l f h ∙ sym (listed_stop m ls l lines f h))))

-- a member that is not opened has the place 0
unopened_answer : (m : Member) (f : ℕ) → 1 ≤ (opened_of m).number → answer_of (opened_of m) f ≡ refused (opened_of m).number 0
unfolding answer_of column_of
unopened_answer m f h =
    ap (λ (b : Bool). cond {A = Told ℕ Working} b (at_place 0 (asked (opened_of m).column f)) (refused (opened_of m).number (place_of (opened_of m).column.member (opened_of m).column.count))) (not_zero h)
    ∙ ap (λ (c : Column). refused (opened_of m).number (place_of c.member c.count)) (opened_refused m h)

-- opening a member and entering the lines answers as the list does
pub answer_listed : (m : Member) (lines : List Line) (f : ℕ) → answer_of (entered_all (opened_of m) lines) f ≡ listed_of m lines f
answer_listed m lines f =
    by_number (opened_of m).number
    (λ z. let is : opened_of m ≡ record { number = 0; column = column_of m [] } = λ i. record { number = z i; column = opened_column m z i } in
    ap (λ (u : Outcome). answer_of (entered_all u lines) f) is ∙ (along m z [] lines f holdable_none ∙ sym (listed_opened m lines f z)))
    (λ h. ap (λ (u : Outcome). answer_of u f) (stays (opened_of m) lines h) ∙ (unopened_answer m f h ∙ sym (listed_unopened m lines f h)))

-- before the first line the member and the count kept make the column of opening, with no places used: it is reached, unless it was refused
pub opens_sits : (m k : Member) (count n : ℕ) → record { number = n; column = column_from k count no_places } ≡ opened_of m → n ≡ 0 → Reached (column_from k count no_places)
opens_sits m k count n o z = given_reached m (rw z at o)
