-- `combination::search::sum_of` meets its contract: with the products that are left the sum is that of the row. Assumes nothing.
use Rattle.std.proofs.Common.{◌≡◌, suc, ◌+◌, ◌*◌, ◌≤◌, sym, ◌∙◌, ap, arith, ⊎_elim, inl, inr, ℤ, ◌+ℤ◌, ◌*ℤ◌, nat_abs, length, lit<, w64, to_z, of_z}
use Rattle.std.proofs.Math.IntN.{+ℤ_assoc, +ℤ_idr}
use Rattle.std.specs.Iterator.Adapters.{zip_second}
use Rattle.std.specs.Slice.Iter.{iter_rest}
use Rattle.newtons.proofs.Word.{small_fits, kept}
use Rattle.newtons.specs.Effect.{limit}
use Rattle.combination.specs.Governing.{sum_of}
use Rattle.combination.proofs.RowSums.{factor_kept, most_product, most_sum, size_add, size_product, sum_none}
use Rattle.combination.proofs.search.sum_of.Goals as goal
use Rattle.combination.proofs.search.sum_of.Goals.{After-from}

-- a turn of the loop: f is the factor, x its effect, and sum what is summed before it
module _ (c : After-from) where
  abbrev sum : ℤ
  sum = to_z w64 c.loop-factor.sum-bits

  abbrev f : ℤ
  f = c.in-Some.factor.now

  abbrev x : ℤ
  x = c.in-Some.effect.now

  f-small : nat_abs f ≤ 16
  f-small = rw c.in-Some.ensures.steps.0 at (c.loop-factor.invariant.sixteen 0)

  x-small : nat_abs x ≤ limit
  x-small = rw c.in-Some.ensures.steps.1 at (c.loop-factor.invariant.within 0)

  f-kept : to_z w64 (of_z w64 c.from.result) ≡ f
  f-kept =
      let is : c.from.result ≡ f = c.from.ensures ∙ factor_kept f-small in
      ap (λ (z : ℤ). to_z w64 (of_z w64 z)) is ∙ kept f-small (lit< tt)

  x-kept : to_z w64 (of_z w64 x) ≡ x
  x-kept = kept x-small (lit< tt)

  product : nat_abs (f *ℤ x) ≤ most_product
  product = size_product f x f-small x-small

  product-kept : to_z w64 (of_z w64 (f *ℤ x)) ≡ f *ℤ x
  product-kept = kept product (lit< tt)

  small : nat_abs (sum +ℤ f *ℤ x) + most_product * length (iter_rest (zip_second c.next.new.self)) ≤ most_sum
  small =
      let before : nat_abs sum + most_product * suc (length (iter_rest (zip_second c.next.new.self))) ≤ most_sum = rw c.in-Some.ensures.steps.1 at c.loop-factor.invariant.small in
      omega (arith, size_add sum (f *ℤ x), product)

  most : nat_abs (sum +ℤ f *ℤ x) ≤ most_sum
  most = omega (arith, small)

  sum-kept : to_z w64 (of_z w64 (sum +ℤ f *ℤ x)) ≡ sum +ℤ f *ℤ x
  sum-kept = kept most (lit< tt)

pub overflow_mul-sum : goal.overflow_mul-sum
overflow_mul-sum c =
    let t = (goal.at.overflow_mul-sum c).After-from in
    simp (f-kept t, x-kept t) (small_fits (product t) (lit< tt))

pub overflow_add-sum : goal.overflow_add-sum
overflow_add-sum c =
    let t = (goal.at.overflow_add-sum c).After-from in
    simp (f-kept t, x-kept t, product-kept t) (small_fits (most t) (lit< tt))

pub loop-factor-preserved : goal.loop-factor-preserved
unfolding sum_of
loop-factor-preserved c =
    let t = (goal.at.loop-factor-preserved c).After-from in
    let steps = c.in-Some.ensures.steps in
    let before = c.loop-factor.invariant in
    simp (f-kept t, x-kept t, product-kept t, sum-kept t) (record {
      sixteen = λ i. rw steps.0 at (before.sixteen (suc i));
      within = λ i. rw steps.1 at (before.within (suc i));
      small = small t;
      whole = +ℤ_assoc (sum t) (f t *ℤ x t) _ ∙ (rw (steps.0, steps.1) at before.whole);
    })

pub returns : goal.returns
returns c =
    let sum = to_z w64 c.loop-factor.sum-bits in
    let none = sum_none _ _ (⊎_elim (λ p. inl p.1.0) (λ p. inr p.1.0) c.in-None.ensures.steps) in
    sym (+ℤ_idr sum) ∙ (ap (λ (z : ℤ). sum +ℤ z) (sym none) ∙ c.loop-factor.invariant.whole)
