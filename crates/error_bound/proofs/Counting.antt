-- What is told of the refused entries of a list: one after another as the definition tells it of the whole.
-- Assumes nothing.
use Rattle.std.proofs.Common.{◌≡◌, refl, sym, ◌∙◌, ap, cond, List, [], ◌∷◌, ℕ, ◌+◌, ◌≤◌, add-zero, zero-add, arith, eqb}
use Rattle.std.specs.Prelude.{Option, Some, None, unwrap_or}
use Rattle.refusal.specs.declared.Refusal.{Refusal}
use Rattle.refusal.specs.declared.Refused.{Refused}
use Rattle.refusal.specs.Refusal.{number_of}
use Rattle.refusal.proofs.Said.{by_number, not_zero, number_positive}
use Rattle.column.specs.declared.Line.{Line}
use Rattle.column.specs.declared.Member.{Member}
use Rattle.column.specs.declared.Column.{Column}
use Rattle.column.specs.Accepted.{entry_number, joined}
use Rattle.column.specs.Column.{Outcome, column_of, opened_of, entered_of, after}
use Rattle.column.specs.theorems.InTurn.{Holdable}
use Rattle.column.proofs.Reach.{holdable_none, entered_column, joined_holdable, opened_column}
use Rattle.error_bound.specs.Entries.{RefusedEntries, refusals_told, numbers_from, refused_count, first_number, first_place, refusals_of, refusals_after}
use Rattle.error_bound.specs.inner.Counting.{numbers_on, noted_of, noted_all, no_refusals}

-- one entry more: accepted, refused as the first, and refused after others
module _ (p : RefusedEntries) (n place : ℕ) where
  pub noted_none : n ≡ 0 → p ≡ noted_of p n place
  unfolding noted_of
  noted_none e = rw e

  pub noted_first : 1 ≤ n → p.number ≡ 0 → record { count = p.count + 1; number = n; place = place } ≡ noted_of p n place
  unfolding noted_of
  noted_first h e = rw (not_zero h, e)

  pub noted_more : 1 ≤ n → 1 ≤ p.number → record { count = p.count + 1; number = p.number; place = p.place } ≡ noted_of p n place
  unfolding noted_of
  noted_more h k = rw (not_zero h, not_zero k)

-- as it is noted
pub noted : (n : ℕ) (first : Option (Refused ℕ)) (r : Refusal) (place : ℕ)
    → refusals_told (record { count = n + 1; first = Some (unwrap_or first (record { refusal = r; back = place })) }) ≡ noted_of (refusals_told (record { count = n; first = first })) (number_of r) place
unfolding refusals_told
noted n None r place = noted_first (record { count = n; number = 0; place = 0 }) (number_of r) place (number_positive r) refl
noted n (Some q) r place =
    noted_more (record { count = n; number = number_of q.refusal; place = q.back }) (number_of r) place (number_positive r) (number_positive q.refusal)

-- the three numbers that are told
abbrev told : ℕ → ℕ → ℕ → RefusedEntries
told count number place = record { count = count; number = number; place = place }

-- after a refusal, of which the number and the place stay, the later ones are counted
kept : (p : RefusedEntries) (place : ℕ) (ns : List ℕ) → 1 ≤ p.number → noted_all p place ns ≡ told (p.count + refused_count ns) p.number p.place
unfolding noted_all refused_count
kept p place [] h = rw (add-zero p.count)
kept p place (n ∷ ns) h =
    by_number n
    (λ e. let k : p.count + refused_count ns ≡ p.count + (cond (eqb n 0) 0 1 + refused_count ns) = rw e (omega arith) in
    ap (λ (q : RefusedEntries). noted_all q (place + 1) ns) (sym (noted_none p n place e))
    ∙ (kept p (place + 1) ns h ∙ ap (λ (j : ℕ). told j p.number p.place) k))
    (λ r. let k : p.count + 1 + refused_count ns ≡ p.count + (cond (eqb n 0) 0 1 + refused_count ns) = rw (not_zero r) (omega arith) in
    ap (λ (q : RefusedEntries). noted_all q (place + 1) ns) (sym (noted_more p n place r h))
    ∙ (kept (told (p.count + 1) p.number p.place) (place + 1) ns h ∙ ap (λ (j : ℕ). told j p.number p.place) k))

-- before any refusal, what the definition says of the whole list
found : (place : ℕ) (ns : List ℕ) → noted_all no_refusals place ns ≡ told (refused_count ns) (first_number ns) (first_place place ns)
unfolding noted_all refused_count first_number first_place
found place [] = refl
found place (n ∷ ns) =
    by_number n
    (λ e. ap (λ (q : RefusedEntries). noted_all q (place + 1) ns) (sym (noted_none no_refusals n place e)) ∙ (found (place + 1) ns ∙ rw (e, zero-add (refused_count ns))))
    (λ r. ap (λ (q : RefusedEntries). noted_all q (place + 1) ns) (sym (noted_first no_refusals n place r refl))
    ∙ (kept (told 1 n place) (place + 1) ns r ∙ rw (not_zero r)))

pub noted_all_lem : (ns : List ℕ) → noted_all no_refusals 1 ns ≡ refusals_of ns
unfolding refusals_of
noted_all_lem ns = found 1 ns

-- some are counted just where a first one is told, so the count says as well as the number whether there was one
pub count_tells : (ns : List ℕ) → (refused_count ns ≡ 0 → first_number ns ≡ 0) × (1 ≤ refused_count ns → 1 ≤ first_number ns)
unfolding refused_count first_number
count_tells [] = (λ e. refl, λ h. h)
count_tells (n ∷ ns) =
    by_number n (λ e. rw (e, zero-add (refused_count ns)) (count_tells ns)) (λ r. rw (not_zero r) (λ e. absurd (omega (arith, e)), λ h. r))

module _ (m : Member) where
  numbers_from_lem : (ls es : List Line) → Holdable ls → numbers_on (column_of m ls) es ≡ numbers_from m ls es
  unfolding numbers_on numbers_from
  numbers_from_lem ls [] h = refl
  numbers_from_lem ls (e ∷ es) h =
      ap (λ (o : Outcome). o.number ∷ numbers_on o.column es) (entered_column m ls e h)
      ∙ ap (λ (ns : List ℕ). entry_number m ls e ∷ ns) (numbers_from_lem (joined m ls e) es (joined_holdable m ls e h))

  -- what is told of entering on an opened column is what the definition tells
  pub refusals_open : (es : List Line) → (opened_of m).number ≡ 0 → refusals_of (numbers_on (opened_of m).column es) ≡ refusals_after m es
  unfolding refusals_after
  refusals_open es h =
      ap (λ (c : Column). refusals_of (numbers_on c es)) (opened_column m h)
      ∙ (ap refusals_of (numbers_from_lem [] es holdable_none) ∙ rw h)

  -- and nothing where opening is refused
  pub refusals_number : (es : List Line) (n : ℕ) → 1 ≤ n → n ≡ (opened_of m).number → no_refusals ≡ refusals_after m es
  unfolding refusals_after refusals_of refused_count first_number first_place
  refusals_number es n h e = rw (← e, not_zero h)

  -- both where it is known what opening gave
  pub refusals_opened : {c : Column} (es : List Line) → record { number = 0; column = c } ≡ opened_of m → refusals_of (numbers_on c es) ≡ refusals_after m es
  unfolding refusals_after
  refusals_opened es e =
      ap (λ (o : Outcome). refusals_of (numbers_on o.column es)) e ∙ refusals_open es (sym (ap (λ (o : Outcome). o.number) e))

  pub refusals_refused : {c : Column} (es : List Line) (r : Refusal) → record { number = number_of r; column = c } ≡ opened_of m → no_refusals ≡ refusals_after m es
  unfolding refusals_after refusals_of refused_count first_number first_place
  refusals_refused es r e = rw (← e, not_zero (number_positive r))

-- one entry more is counted and noted, and the others follow
pub next_entry : (c d : Column) (l : Line) (es : List Line) (n place : ℕ) (p : RefusedEntries) {q : RefusedEntries} → record { number = n; column = d } ≡ entered_of c l → q ≡ noted_of p n place
    → (after d es ≡ after c (l ∷ es)) × (noted_all q (place + 1) (numbers_on d es) ≡ noted_all p place (numbers_on c (l ∷ es)))
unfolding after numbers_on noted_all
next_entry c d l es n place p e k =
    rw k (
      ap (λ (o : Outcome). after o.column es) e,
      ap (λ (o : Outcome). noted_all (noted_of p o.number place) (place + 1) (numbers_on o.column es)) e,
    )
