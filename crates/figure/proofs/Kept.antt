-- The figure of lines kept where every line has the share that it had above.
-- Assumes nothing.
use Rattle.std.proofs.Common.{◌≡◌, refl, sym, ◌∙◌, ap, Bool, true, cond, ℕ, ◌≤◌, arith, eqb, eqb-true}
use Rattle.std.specs.Prelude.{Option, None, Some, IsSome}
use Rattle.std.specs.Option.{option_eq}
use Rattle.std.proofs.Math.Path.{fun_ext}
use Rattle.std.proofs.lemmas.Bool.{false≢true, lt-leb}
use Rattle.lists.proofs.Tests.{cases}
use Rattle.reduction.specs.declared.InfluenceArea.{InfluenceArea}
use Rattle.reduction.specs.declared.share.Share.TheVariants.{Twentieths}
use Rattle.reduction.specs.Share.{one_floor, clamped_of, heavy_twentieths, other_twentieths, share_of}
use Rattle.reduction.proofs.Twentieths.{share_other, share_clamped}
use Rattle.column.specs.declared.Line.{Line}
use Rattle.figure.specs.declared.shares.Shares.{Shares}
use Rattle.figure.specs.Carried.{is_formula_line}
use Rattle.figure.specs.Figure.{line_figure}
use Rattle.figure.specs.inner.Rates.{twentieths_rate, rate_of}
use Rattle.figure.specs.inner.Shared.{SharesOf, figure_by}

-- what shares are that are those at some n and X
pub shared_at : (n : ℕ) (x : InfluenceArea) (s : Shares) → SharesOf n x s
    → (s.clamped ≡ clamped_of n x) × (s.formula ≡ rate_of n x) × (s.other ≡ (twentieths_rate (heavy_twentieths n)).times)
shared_at n x s e = (rw (← e.0, ← e.1) s.clamped_is, rw (← e.0, ← e.1) s.formula_is, rw (← e.0) s.other_is)

other_below : (class n : ℕ) → 2 ≤ n → other_twentieths class n ≡ other_twentieths class 2
unfolding other_twentieths one_floor
other_below class n h = rw (lt-leb n 1 h)

-- from the second floor on, where the formula lines' share is clamped, a line's share has neither n nor X
share_below : (s : Shares) (l : Line) {k : ℕ} → 2 ≤ s.carried.floors → s.clamped ≡ Some k
    → share_of l.load l.class s.carried.floors s.carried.influence ≡ Twentieths (cond (is_formula_line l) k (other_twentieths l.class 2))
unfolding is_formula_line
share_below s l {k} h some =
    let clamped = sym s.clamped_is ∙ some in
    cases (λ (b : Bool). share_of l.load l.class s.carried.floors s.carried.influence ≡ Twentieths (cond b k (other_twentieths l.class 2))) (is_formula_line l)
    (λ q. share_clamped l.load l.class s.carried.floors s.carried.influence q clamped)
    (λ q. share_other l.load l.class s.carried.floors s.carried.influence q ∙ ap Twentieths (other_below l.class s.carried.floors h))

both : (a b : Option ℕ) → IsSome b → option_eq eqb a b ≡ true → (k : ℕ) × (a ≡ Some k) × (b ≡ Some k)
both (Some j) (Some k) h e = (k, ap Some (eqb-true j k e), refl)
both None (Some k) h e = absurd (false≢true e)
both a None h e = absurd (false≢true h)

-- so where it is clamped alike, the figure of each line stays
pub figure_kept : (s t : Shares) → 2 ≤ s.carried.floors → s.carried.floors ≤ t.carried.floors
    → IsSome t.clamped → option_eq eqb s.clamped t.clamped ≡ true → figure_by s ≡ figure_by t
unfolding line_figure
figure_kept s t two more some alike =
    let (at, before, here) = both s.clamped t.clamped some alike in
    fun_ext (λ l. rw (share_below s l two before, share_below t l (omega arith) here))
