-- The table of factors: one computed test over the whole. Assumes nothing.
use Rattle.std.proofs.Common.{◌≡◌, refl, sym, ◌∙◌, subst, List, [], ℕ, ◌≤◌, ◌<◌, arith, T, ℤ, pos, nat_abs, length, get_or}
use Rattle.std.proofs.Math.ListN.{length-map, get_or-map}
use Rattle.effects.specs.Check.{place_of}
use Rattle.newtons.specs.Effect.{limit}
use Rattle.effects.specs.inner.Sized.{EachAtMost, Seven}
use Rattle.combination.specs.Factors.{combinations, factor_in, factors}
use Rattle.combination.specs.Governing.{sum_of, sums}
use Rattle.effects.proofs.Sevens.{each_below, every, at, seven_test, seven_of_lem}
use Rattle.combination.proofs.RowSums.{most_sum, sum_small}

pub factors_length : length factors ≡ 25
unfolding factors combinations
factors_length = refl

all_seven : T (every (seven_test 16) factors)
unfolding factors combinations factor_in place_of
all_seven = tt

-- a row has seven factors, each at most 16 in size
pub row_fits : (i : ℕ) → i < 25 → Seven 16 (get_or factors i [])
row_fits i h = seven_of_lem 16 (get_or factors i []) (at (seven_test 16) factors all_seven i [] (λ l. omega (arith, factors_length)))

-- ---- the sums of the 25 rows

pub sums_length : (xs : List ℤ) → length (sums xs) ≡ 25
unfolding sums
sums_length xs = length-map factors (λ row. sum_of row xs) ∙ factors_length

pub sum_at : (xs : List ℤ) (i : ℕ) → get_or (sums xs) i (pos 0) ≡ sum_of (get_or factors i []) xs
unfolding sums sum_of
sum_at xs i = get_or-map (λ row. sum_of row xs) factors i []

pub sums_some : (xs : List ℤ) → 0 < length (sums xs)
sums_some xs = omega (arith, sums_length xs)

pub sums_small : (xs : List ℤ) → Seven limit xs → EachAtMost most_sum (sums xs)
sums_small xs X =
    each_below (sums xs)
    (λ i h. subst (λ (z : ℤ). nat_abs z ≤ most_sum) (sym (sum_at xs i)) (sum_small (get_or factors i []) xs (row_fits i (omega (arith, sums_length xs))) X 0))
