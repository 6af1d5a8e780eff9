-- Demand 3, for every member, every list of entries and every floor.
-- Assumes nothing.
use Rattle.std.proofs.Common.{◌≡◌, refl, ◌∙◌, ap, true, List, ℕ, ◌≤◌, arith}
use Rattle.std.proofs.Math.Path.{subst⁻¹}
use Rattle.refusal.specs.Said.{Said, refused, nothing}
use Rattle.refusal.specs.declared.Refusal.{Refusal}
use Rattle.refusal.specs.Refusal.{number_of}
use Rattle.refusal.proofs.Said.{not_zero, number_positive}
use Rattle.lists.specs.Lists.{All}
use Rattle.column.specs.declared.Line.{Line}
use Rattle.column.specs.declared.Member.{Member}
use Rattle.column.specs.declared.Column.{Column}
use Rattle.figure.specs.declared.Working.{Working}
use Rattle.figure.specs.Carried.{carried, has_floor}
use Rattle.figure.specs.Figure.{figure_of}
use Rattle.column.specs.Accepted.{accepted}
use Rattle.column.specs.Column.{column_of, opened_of, after}
use Rattle.figure.specs.Asked.{working_of, asked_of, asked}
use Rattle.error_bound.specs.Entries.{asked_after}
use Rattle.error_bound.specs.Claim.{Bounded, Answered, Claim}
use Rattle.error_bound.specs.theorems.Demand3.{Demand3}
use Rattle.column.specs.inner.Sound.{InLimits}
use Rattle.lists.proofs.Lists.{all_keep}
use Rattle.figure.proofs.Carried.{has_carried, has_some}
use Rattle.column.proofs.Columns.{column_lines}
use Rattle.error_bound.proofs.Exact.{bounded}
use Rattle.column.proofs.Reach.{accepted_holdable, after_opened}

-- asking the column of some lines asks its member and them
asked_column : (m : Member) (ls : List Line) (f : ℕ) → All InLimits ls → asked (column_of m ls) f ≡ asked_of m ls f
unfolding column_of
asked_column m ls f h = ap (λ (ks : List Line). asked_of m ks f) (column_lines m ls h)

-- the bounds at a floor that one of the lines has
bounded_at : (m : Member) (ls : List Line) (f : ℕ) → All InLimits ls → has_floor f ls ≡ true → Bounded m (carried f ls) (figure_of m (carried f ls))
unfolding carried
bounded_at m ls f h has =
    has_some (λ ks. All InLimits ks → Bounded m ks (figure_of m ks)) f (carried f ls) (has_carried f ls ∙ has)
    (λ l ks. bounded m l ks) (all_keep _ h)

-- demand 3 of asking a member with these lines
pub claimed : (m : Member) (ls : List Line) (f : ℕ) → All InLimits ls → Claim m ls f (asked_of m ls f)
unfolding Claim asked_of working_of
claimed m ls f h opened has = record { working = working_of m ls f; given = rw has; bounded = bounded_at m ls f h has }

-- 01, Reduced load and figure: demand 3
pub demand3 : Demand3
unfolding Claim
demand3 m entries f opened has =
    let ls = accepted m entries in
    let limits = (accepted_holdable m entries).lines in
    subst⁻¹ (Answered m ls f)
    (ap (λ (c : Column). asked c f) (after_opened m entries opened) ∙ asked_column m ls f limits)
    (claimed m ls f limits opened has)

-- opening, entering the whole list and asking: where the member is opened, and where it is refused
module _ (m : Member) (entries : List Line) (f : ℕ) where
  pub asked_open : (opened_of m).number ≡ 0 → asked (after (opened_of m).column entries) f ≡ asked_after m entries f
  unfolding asked_after
  asked_open e = rw e

  pub asked_number : (n : ℕ) → 1 ≤ n → n ≡ (opened_of m).number → refused n nothing ≡ asked_after m entries f
  unfolding asked_after
  asked_number n h e = rw (← e, not_zero h)

  -- and so where it is known what opening gave
  pub asked_opened : {c d : Column} → record { number = 0; column = c } ≡ opened_of m → d ≡ after c entries → asked d f ≡ asked_after m entries f
  unfolding asked_after
  asked_opened e is = rw (← e, is) refl

  pub asked_refused : {c : Column} (r : Refusal) → record { number = number_of r; column = c } ≡ opened_of m → refused (number_of r) nothing ≡ asked_after m entries f
  unfolding asked_after
  asked_refused r e = rw (← e, not_zero (number_positive r))

  -- the claim of an answer that says what the definition says
  pub claim_opened : {t : Said Working} → t ≡ asked_after m entries f → Claim m (accepted m entries) f t
  unfolding Claim asked_after
  claim_opened e opened has = subst⁻¹ (Answered m (accepted m entries) f) (e ∙ rw opened refl) (demand3 m entries f opened has)

-- where opening is refused nothing is claimed, of whatever lines
pub claim_refused : (m : Member) (ls : List Line) (f n : ℕ) (t : Said Working) → 1 ≤ n → n ≡ (opened_of m).number → Claim m ls f t
unfolding Claim
claim_refused m ls f n t h e opened has = absurd (omega (arith, e ∙ opened))
