-- `combination::search::sum_of` meets its contract: with the products that are left the sum is that of the row. Assumes nothing.
use Rattle.std.proofs.Common.{◌≡◌, ◌+◌, ◌*◌, ◌≤◌, ◌+ℤ◌, nat_abs, length}
use Rattle.std.specs.Iterator.Adapters.{zip_first, zip_second}
use Rattle.std.specs.Slice.Iter.{iter_rest}
use Rattle.newtons.specs.Effect.{limit}
use Rattle.effects.specs.inner.Sized.{EachAtMost}
use Rattle.combination.specs.Governing.{sum_of}
use Rattle.combination.proofs.RowSums.{most_product, most_sum}
use Rattle.combination.proofs.search.sum_of.Given as goal

abbrev pub invariant-loop-factor : goal.invariant-loop-factor
invariant-loop-factor l =
    let factors = iter_rest (zip_first l.factor-iterator) in
    let effects = iter_rest (zip_second l.factor-iterator) in
    record {
      sixteen : EachAtMost 16 factors;
      within : EachAtMost limit effects;
      small : nat_abs l.sum + most_product * length effects ≤ most_sum;
      whole : l.sum +ℤ sum_of factors effects ≡ sum_of l.fn.factors l.fn.effects.newtons;
    }
