-- Pasting is entering, one line after another, up to and with the first refused one.
-- Assumes nothing.
use Rattle.std.proofs.Common.{◌≡◌, refl, sym, ◌∙◌, ap, subst, List, [], ◌∷◌, ◌++◌, append-nil, ◌⊎◌, inl, inr, ℕ, suc, ◌+◌, ◌≤◌, arith, length, take, length-append, take_at, take_all}
use Rattle.std.proofs.Math.Seq.{append_snoc}
use Rattle.refusal.proofs.Said.{by_number, not_zero}
use Rattle.column.specs.declared.Line.{Line}
use Rattle.column.specs.declared.Column.{Column}
use Rattle.column.specs.Column.{Outcome, entered_of, after, Reached}
use Rattle.column.specs.Pasted.{pasted_from, pasted_of}
use Rattle.column.specs.theorems.Entering.{NoneRefused, none, more, Stops}
use Rattle.column.specs.theorems.Pasting.{AllKept, KeptBefore, pasted_entries, EndsAsEntering, KeptAreHeld}
use Rattle.column.proofs.Reach.{after_append, entered_count, entered_stays, reached_entered}
use Rattle.column.proofs.Entering.{every_list}

-- ---- one line, and none

module _ (k : ℕ) (c : Column) (l : Line) (ls : List Line) where
  -- a line that is not refused is kept, and pasting goes on with the next
  pasted_more : (entered_of c l).number ≡ 0 → pasted_from k c (l ∷ ls) ≡ pasted_from (k + 1) (entered_of c l).column ls
  unfolding pasted_from
  pasted_more e = rw e

  -- a refused line ends it
  pasted_stops : 1 ≤ (entered_of c l).number
      → pasted_from k c (l ∷ ls) ≡ record { number = (entered_of c l).number; kept = k; column = (entered_of c l).column }
  unfolding pasted_from
  pasted_stops h = rw (not_zero h)

-- the same from what entering the line gave
module _ (k : ℕ) (c : Column) (l : Line) (ls : List Line) (o : Outcome) (e : o ≡ entered_of c l) where
  pub pasted_next : o.number ≡ 0 → pasted_from (k + 1) o.column ls ≡ pasted_from k c (l ∷ ls)
  pasted_next z =
      ap (λ (p : Outcome). pasted_from (k + 1) p.column ls) e
      ∙ sym (pasted_more k c l ls (sym (ap (λ (p : Outcome). p.number) e) ∙ z))

  pub pasted_end : 1 ≤ o.number → record { number = o.number; kept = k; column = o.column } ≡ pasted_from k c (l ∷ ls)
  pasted_end h =
      ap (λ (p : Outcome). record { number = p.number; kept = k; column = p.column }) e
      ∙ sym (pasted_stops k c l ls (subst (λ (p : Outcome). 1 ≤ p.number) e h))

-- nothing is left to paste
pub pasted_none : (k : ℕ) (c : Column) → pasted_from k c [] ≡ record { number = 0; kept = k; column = c }
unfolding pasted_from
pasted_none k c = refl

-- one line alone is entered
pub pasted_one : (c : Column) (l : Line) → record { number = (pasted_of c (l ∷ [])).number; column = (pasted_of c (l ∷ [])).column } ≡ entered_of c l
pasted_one c l =
    by_number (entered_of c l).number
    (λ z. rw (pasted_more 0 c l [] z, pasted_none 1 (entered_of c l).column) (λ i. record { number = sym z i; column = (entered_of c l).column }))
    (λ h. rw (pasted_stops 0 c l [] h))

-- ---- a whole list

-- lines of which none is refused are all kept, and pasting goes on with those after them
pasted_through : (k : ℕ) (c : Column) (ls rest : List Line) → NoneRefused c ls
    → pasted_from k c (ls ++ rest) ≡ pasted_from (k + length ls) (after c ls) rest
unfolding after
pasted_through k c [] rest none = let e : k + 0 ≡ k = omega arith in rw e refl
pasted_through k c (l ∷ ls) rest (more z h) =
    let e : k + 1 + length ls ≡ k + suc (length ls) = omega arith in
    pasted_more k c l (ls ++ rest) z
    ∙ (pasted_through (k + 1) (entered_of c l).column ls rest h
    ∙ ap (λ (n : ℕ). pasted_from n (after (entered_of c l).column ls) rest) e)

-- 02, CR 1: no line is refused
pub all_kept : AllKept
unfolding AllKept
all_kept c lines h =
    let z : 0 + length lines ≡ length lines = omega arith in
    ap (pasted_from 0 c) (sym (append-nil lines))
    ∙ (pasted_through 0 c lines [] h
    ∙ (pasted_none (0 + length lines) (after c lines)
    ∙ ap (λ (n : ℕ). record { number = 0; kept = n; column = after c lines }) z))

-- 02, CR 1: a line is the first to be refused
pub kept_before : KeptBefore
unfolding KeptBefore after
kept_before c lines s =
    let d = after c s.before in
    let z : 0 + length s.before ≡ length s.before = omega arith in
    let e = sym (after_append c s.before (s.line ∷ [])) in
    ap (pasted_from 0 c) s.is
    ∙ (pasted_through 0 c s.before (s.line ∷ s.rest) s.accepted
    ∙ (pasted_stops (0 + length s.before) d s.line s.rest s.refused
    ∙ λ i. record { number = (entered_of d s.line).number; kept = z i; column = e i }))

-- ---- a paste is a list of entries

module _ (c : Column) (lines : List Line) where
  ends_by : NoneRefused c lines ⊎ Stops c lines → (pasted_of c lines).column ≡ after c (pasted_entries c lines)
  unfolding AllKept KeptBefore
  ends_by (inl h) = rw (all_kept c lines h, take_all (length lines + 1) lines (omega arith))
  ends_by (inr s) =
      let size : length (s.before ++ (s.line ∷ [])) ≡ length s.before + 1 = length-append s.before (s.line ∷ []) in
      let cut : take (length s.before + 1) lines ≡ s.before ++ (s.line ∷ []) =
      ap (take (length s.before + 1)) (s.is ∙ sym (append_snoc s.before s.line s.rest))
      ∙ take_at (s.before ++ (s.line ∷ [])) s.rest (length s.before + 1) size in
      rw (kept_before c lines s, cut)

-- 02, CR 1: "It ends as entering them one after another would"
pub ends_as_entering : EndsAsEntering
unfolding EndsAsEntering
ends_as_entering c lines = ends_by c lines (every_list c lines)

-- ---- the kept lines are held

held_from : (k : ℕ) (c : Column) (lines : List Line) → Reached c
    → (pasted_from k c lines).column.count + k ≡ c.count + (pasted_from k c lines).kept
unfolding pasted_from
held_from k c [] r = refl
held_from k c (l ∷ ls) r =
    by_number (entered_of c l).number
    (λ z. rw (pasted_more k c l ls z)
    (omega (arith, held_from (k + 1) (entered_of c l).column ls (reached_entered l r), entered_count l r z)))
    (λ h. rw (pasted_stops k c l ls h, entered_stays c l h))

-- 02, CR 1: the column holds them beside those it held
pub kept_are_held : KeptAreHeld
unfolding KeptAreHeld
kept_are_held c lines r = omega (arith, held_from 0 c lines r)
