-- Which figures are within the bounds of demand 3, told by computing. The bounds' numbers are not said again here, so that a
-- wrong one is refused here, by an example, before it is at a law: modules are checked in the order of their names.
-- Assumes nothing.
use Rattle.std.proofs.Common.{◌≡◌, refl, subst, Bool, true, false, List, ◌⊎◌, inl, inr, ⊎_elim, ℕ, ◌≤◌, ◌<◌, not-le_of_lt, leb, ltb, leb-true, leb-false, ltb-true, ltb-false}
use Rattle.reduction.specs.declared.share.Share.{Share}
use Rattle.reduction.specs.declared.share.Share.TheVariants.{Twentieths, Root}
use Rattle.reduction.specs.Share.{one_floor, root_at_least, root_at_most, least_twentieths, formula_share, other_twentieths}
use Rattle.lists.specs.Lists.{All, none, more, keep, some, total}
use Rattle.member.specs.Member.{table4_2, table_factor}
use Rattle.member.specs.Line.{is_formula}
use Rattle.column.specs.declared.Line.{Line}
use Rattle.column.specs.declared.Member.{Member}
use Rattle.column.specs.Line.{entries_of}
use Rattle.column.specs.Accepted.{last_floor, first_condition, entry_number, joined, accepted_from}
use Rattle.column.specs.Column.{member_of}
use Rattle.figure.specs.Carried.{is_formula_line, formula_lines, other_lines, carried, has_floor, floors_of, area_of, influence_from, influence_of}
use Rattle.error_bound.specs.Claim.{formula_total, twenty_p, NotBelowExact, BelowExactPlus, Within, exact_share, Bounded}
use Rattle.figure.specs.tables.Examples.{sample_sheet}
use Rattle.error_bound.specs.tables.Examples.{mistyped, garage_above, Judged, judged, judgements, Holds, SaysJudged}
use Rattle.error_bound.specs.tables.Examples.{sample_figure, unreduced_sum, nothing_changed, refused_counted, garage_figure}

-- a test, and that it tells whether a claim holds
record Test (claim : Type 0) : Type 0 where
  passed : Bool
  tells : Holds passed claim

-- what a test says, by its value
told : {claim : Type 0} (t : Test claim) (verdict : Bool) → t.passed ≡ verdict → Holds verdict claim
told {claim} t verdict e = subst (λ (b : Bool). Holds b claim) e t.tells

-- comparisons
at_most_by : (a b : ℕ) (t : Bool) → leb a b ≡ t → Test (a ≤ b)
unfolding Holds
at_most_by a b true e = record { passed = true; tells = leb-true a b e }
at_most_by a b false e = record { passed = false; tells = not-le_of_lt (leb-false a b e) }

at_most : (a b : ℕ) → Test (a ≤ b)
at_most a b = at_most_by a b (leb a b) refl

below_by : (a b : ℕ) (t : Bool) → ltb a b ≡ t → Test (a < b)
unfolding Holds
below_by a b true e = record { passed = true; tells = ltb-true a b e }
below_by a b false e = record { passed = false; tells = λ h. not-le_of_lt h (ltb-false a b e) }

below : (a b : ℕ) → Test (a < b)
below a b = below_by a b (ltb a b) refl

-- a claim of two parts
module _ {P Q R : Type 0} (made : P → Q → R) (first : R → P) (second : R → Q) where
  both_tell : (s t : Bool) → Holds s P → Holds t Q → Test R
  unfolding Holds
  both_tell true true p q = record { passed = true; tells = made p q }
  both_tell true false p q = record { passed = false; tells = λ h. q (second h) }
  both_tell false t p q = record { passed = false; tells = λ h. p (first h) }

  both : Test P → Test Q → Test R
  both s t = both_tell s.passed t.passed s.tells t.tells

-- one of two claims
module _ {P Q : Type 0} where
  either_tells : (s t : Bool) → Holds s P → Holds t Q → Test (P ⊎ Q)
  unfolding Holds
  either_tells true t p q = record { passed = true; tells = inl p }
  either_tells false true p q = record { passed = true; tells = inr q }
  either_tells false false p q = record { passed = false; tells = λ h. ⊎_elim p q h }

  either : Test P → Test Q → Test (P ⊎ Q)
  either s t = either_tells s.passed t.passed s.tells t.tells

-- E ≤ F, F < E + A, and both
not_below : (s : Share) (T P20 F : ℕ) → Test (NotBelowExact s T P20 F)
unfolding NotBelowExact
not_below (Twentieths k) T P20 F = at_most _ _
not_below (Root X) T P20 F = both (λ p q. (p, q)) (λ h. h.0) (λ h. h.1) (at_most _ _) (at_most _ _)

below_plus : (s : Share) (T P20 A F : ℕ) → Test (BelowExactPlus s T P20 A F)
unfolding BelowExactPlus
below_plus (Twentieths k) T P20 A F = below _ _
below_plus (Root X) T P20 A F = either (below _ _) (below _ _)

within : (s : Share) (T P20 A F : ℕ) → Test (Within s T P20 A F)
within s T P20 A F =
    both (λ l h. record { low = l; high = h }) (λ w. w.low) (λ w. w.high) (not_below s T P20 F) (below_plus s T P20 A F)

-- the bounds of a member's lines carried
judge : (m : Member) (ls : List Line) (F : ℕ) → Test (Bounded m ls F)
unfolding Bounded
judge m ls F = within _ _ _ _ F

-- what computing tells of a judgement, and what it says itself: where they agree, it holds
computed : Judged → Bool
computed (judged code lines F verdict) = (judge (member_of code) lines F).passed

verdict_of : Judged → Bool
verdict_of (judged code lines F verdict) = verdict

by_computing : (j : Judged) → computed j ≡ verdict_of j → SaysJudged j
unfolding SaysJudged computed verdict_of
by_computing (judged code lines F verdict) e = told (judge (member_of code) lines F) verdict e

-- 01, Reduced load and figure: which figures are within the bounds
pub judgements_hold : All SaysJudged judgements
unfolding computed verdict_of judge within not_below below_plus both both_tell either either_tells at_most at_most_by below below_by judgements sample_figure unreduced_sum nothing_changed refused_counted garage_figure sample_sheet mistyped garage_above entries_of accepted_from joined entry_number first_condition last_floor carried keep Bounded NotBelowExact BelowExactPlus exact_share formula_share root_at_least root_at_most least_twentieths one_floor formula_total twenty_p other_twentieths other_lines formula_lines is_formula_line is_formula floors_of has_floor some influence_of influence_from table_factor table4_2 area_of total
judgements_hold =
    more (by_computing sample_figure refl)
    (more (by_computing unreduced_sum refl)
    (more (by_computing nothing_changed refl)
    (more (by_computing refused_counted refl)
    (more (by_computing garage_figure refl) none))))
