-- Lines entered one after another: the answer after them is that of the list.
-- Assumes nothing.
use Rattle.std.proofs.Common.{◌≡◌, sym, ◌∙◌, ap, arith, ℕ, ◌+◌, ◌≤◌, ◌<◌, List, [], ◌∷◌, ◌++◌, length, drop, get_or, length-append, add-one, drop-cons}
use Rattle.std.proofs.lemmas.List.{drop_all}
use Rattle.std.specs.Prelude.{Result, Ok, Err}
use Rattle.refusal.specs.declared.Refusal.{Refusal}
use Rattle.refusal.specs.Said.{gives, refused, said, number_told}
use Rattle.refusal.proofs.Said.{by_number, not_zero, number_positive}
use Rattle.column.specs.declared.Line.{Line}
use Rattle.column.specs.declared.Member.{Member}
use Rattle.column.specs.declared.Column.{Column}
use Rattle.column.specs.Accepted.{entry_number}
use Rattle.column.specs.Column.{Outcome, column_of, opened_of, opened_as, entered_of}
use Rattle.column.proofs.Columns.{column_lines}
use Rattle.column.specs.theorems.InTurn.{Holdable}
use Rattle.column.proofs.Reach.{holdable_none, holdable_more, opened_column}
use Rattle.figure.specs.Asked.{asked_of}
use Rattle.records.specs.Listed.{at_place, listed_from, listed_of}
use Rattle.records.specs.inner.Entering.{entered_from, then_asked}
use Rattle.records.proofs.Answers.{listed_opened, listed_unopened, column_number, column_entered, listed_on, listed_stop}

next : (ls : List Line) (i : ℕ) (d : Line) → i < length ls → drop i ls ≡ get_or ls i d ∷ drop (i + 1) ls
next ls i d h = rw (add-one i) (drop-cons ls i d h)

-- one line entered, and the others follow, or it is refused
module _ (c : Column) (l : Line) (ls : List Line) (place : ℕ) where
  goes_on : (f : ℕ) {d : Column} → entered_of c l ≡ record { number = 0; column = d } → then_asked (entered_from place c (l ∷ ls)) f ≡ then_asked (entered_from (place + 1) d ls) f
  unfolding entered_from
  goes_on f e = rw e

  stops_at : (f : ℕ) → 1 ≤ (entered_of c l).number → then_asked (entered_from place c (l ∷ ls)) f ≡ refused (entered_of c l).number place
  unfolding entered_from then_asked
  stops_at f h = rw (not_zero h)

-- the same of the lines of a list from a place on, of which an entry is refused or not
module _ (c d : Column) (ls : List Line) (i : ℕ) (h : i < length ls) where
  pub entered_next : (l : Line) → record { number = 0; column = d } ≡ entered_of c (get_or ls i l) → entered_from (i + 1 + 1) d (drop (i + 1) ls) ≡ entered_from (i + 1) c (drop i ls)
  unfolding entered_from
  entered_next l e = rw (next ls i l h, ← e)

  pub entered_stop : (l : Line) {n : ℕ} → record { number = n; column = d } ≡ entered_of c (get_or ls i l) → 1 ≤ n → refused n (i + 1) ≡ entered_from (i + 1) c (drop i ls)
  unfolding entered_from
  entered_stop l e k = rw (next ls i l h, ← e, not_zero k)

pub entered_end : (c : Column) (ls : List Line) (i place : ℕ) → length ls ≤ i → entered_from place c (drop i ls) ≡ gives c
unfolding entered_from
entered_end c ls i place h = rw (drop_all i ls h)

-- entering the lines of a list, from the column of some lines on, answers as the list does
along : (m : Member) (ls lines : List Line) (f : ℕ) → Holdable ls → then_asked (entered_from (length ls + 1) (column_of m ls) lines) f ≡ listed_from m ls lines f
unfolding then_asked entered_from listed_from column_of
along m ls [] f k = ap (λ (ks : List Line). at_place 0 (asked_of m ks f)) (column_lines m ls k.lines)
along m ls (l ∷ lines) f k =
    by_number (entry_number m ls l)
    (λ z. let e = column_entered m ls l k z in
    let more : length (ls ++ (l ∷ [])) + 1 ≡ length ls + 1 + 1 = omega (arith, length-append ls (l ∷ [])) in
    goes_on (column_of m ls) l lines (length ls + 1) f e
    ∙ (ap (λ (n : ℕ). then_asked (entered_from n (column_of m (ls ++ (l ∷ []))) lines) f) (sym more)
    ∙ (along m (ls ++ (l ∷ [])) lines f (holdable_more m ls l k z) ∙ sym (listed_on m ls l lines f z))))
    (λ h. let number = column_number m ls l k in
    stops_at (column_of m ls) l lines (length ls + 1) f (rw number h)
    ∙ (ap (λ (n : ℕ). refused n (length ls + 1)) number ∙ sym (listed_stop m ls l lines f h)))

-- opening a member, entering the lines and asking answers as the list does
pub opened_listed : (m : Member) (lines : List Line) (f : ℕ) {c : Column} → record { number = 0; column = c } ≡ opened_of m → then_asked (entered_from 1 c lines) f ≡ listed_of m lines f
opened_listed m lines f {c} o =
    let opened : (opened_of m).number ≡ 0 = sym (ap (λ (u : Outcome). u.number) o) in
    let is : c ≡ column_of m [] = ap (λ (u : Outcome). u.column) o ∙ opened_column m opened in
    ap (λ (d : Column). then_asked (entered_from 1 d lines) f) is ∙ (along m [] lines f holdable_none ∙ sym (listed_opened m lines f opened))

-- ---- an answer with the place 0

module _ {A : Type 0} where
  -- what it gives, or the refusal, is that of the answer
  pub given_without : (a : Result A Refusal) {x : A} → gives x ≡ at_place 0 (said a) → a ≡ Ok x
  unfolding at_place said
  given_without (Ok y) e = cc
  given_without (Err r) e = cc

  pub refused_without : (a : Result A Refusal) {n place : ℕ} → refused n place ≡ at_place 0 (said a) → (1 ≤ number_told a) × (n ≡ number_told a) × (place ≡ 0)
  unfolding at_place said number_told
  refused_without (Ok y) {n} {place} e = let z : ◌≡◌ {A = ℕ} 0 1 = cc in absurd (omega arith)
  refused_without (Err r) {n} {place} e = (number_positive r, cc, cc)

-- a member that is not opened has the refusal's number, and the place 0
pub opening_refused : (m : Member) (lines : List Line) (f : ℕ) {n place : ℕ} (a : Result Column Refusal) → opened_as (λ c. c) a ≡ opened_of m
    → refused n place ≡ at_place 0 (said a) → refused n place ≡ listed_of m lines f
unfolding opened_as number_told
opening_refused m lines f (Ok c) o e = let is = refused_without {A = Column} (Ok c) e in absurd (omega (arith, is.0))
opening_refused m lines f (Err r) o e =
    let is = refused_without {A = Column} (Err r) e in
    let number = ap (λ (u : Outcome). u.number) o in
    rw (is.1, is.2, number) (sym (listed_unopened m lines f (omega (arith, number, is.0))))
