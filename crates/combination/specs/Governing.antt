-- Paper 01, "Effects and the 25 combinations": the sum of each row, and the rows that govern.
-- Assumes nothing.
use Rattle.std.specs.Prelude.{Bool, cond, List, [], ◌∷◌, map, ℕ, suc, ℤ, pos, ◌+ℤ◌, ◌*ℤ◌}
use Rattle.std.specs.Int.Signed.{lt_z}
use Rattle.combination.specs.Factors.{factors}

-- 01, Effects and the 25 combinations: the sum of a row in tenths of a newton, each factor times its effect
unfoldable pub sum_of : List ℤ → List ℤ → ℤ
sum_of [] xs = pos 0
sum_of (f ∷ fs) [] = pos 0
sum_of (f ∷ fs) (x ∷ xs) = f *ℤ x +ℤ sum_of fs xs

-- 01, Effects and the 25 combinations: the sums of the 25 rows, in order
unfoldable pub sums : List ℤ → List ℤ
sums xs = map (λ row. sum_of row xs) factors

-- 01, Effects and the 25 combinations: "the greatest .. sum"; a sum beats another where it is greater
abbrev pub greater : ℤ → ℤ → Bool
greater a b = lt_z b a

-- 01, Effects and the 25 combinations: "the least sum"; a sum beats another where it is less
abbrev pub less : ℤ → ℤ → Bool
less a b = lt_z a b

-- 01, Effects and the 25 combinations: a row, 1 to 25, and its sum in tenths of a newton
pub record Best : Type 0 where
  pub row : ℕ
  pub tenths : ℤ

-- 01, Effects and the 25 combinations: "equal sums give the lowest row", so a later row must beat the best so far
unfoldable pub better : (ℤ → ℤ → Bool) → Best → ℕ → ℤ → Best
better beats b row s = cond (beats s b.tenths) (record { row = row; tenths = s }) b

-- 01, Effects and the 25 combinations: the best so far, and then the sums from this row on
unfoldable pub best_from : (ℤ → ℤ → Bool) → Best → ℕ → List ℤ → Best
best_from beats b row [] = b
best_from beats b row (s ∷ ss) = best_from beats (better beats b row s) (suc row) ss

-- 01, Effects and the 25 combinations: "the greatest and the least sum", beginning with row 1; row 0 where there are no rows
unfoldable pub best : (ℤ → ℤ → Bool) → List ℤ → Best
best beats [] = record { row = 0; tenths = pos 0 }
best beats (s ∷ ss) = best_from beats (record { row = 1; tenths = s }) 2 ss
