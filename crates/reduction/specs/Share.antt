-- Paper 01, "Reduced load and figure": the share of a line. A share is so many twentieths, or 1/4 + 45.7/√X.
-- Assumes nothing.
use Rattle.std.specs.Prelude.{Bool, cond, Option, None, Some, ℕ, ◌*◌, ◌-◌, leb, eqb}
use Rattle.reduction.specs.declared.InfluenceArea.{InfluenceArea}
use Rattle.reduction.specs.declared.share.Share.{Share}
use Rattle.reduction.specs.declared.share.Share.TheVariants.{Twentieths, Root}
use Rattle.reduction.specs.Least.{sq}
use Rattle.member.specs.Line.{is_formula}

-- 01, Member, line, floor: an influence area X, "in dm²"
abbrev pub dm² : ℕ → InfluenceArea
dm² x = record { 0 = x }

-- 01, Reduced load and figure: "where n is 1". No line is carried where n is 0, which is taken as 1, the higher share
unfoldable pub one_floor : ℕ → Bool
one_floor n = leb n 1

-- 01, Reduced load and figure: 1/4 + 45.7/√X is (5 + 914/√X)/20, so it is k/20 or more where (k − 5)² X ≤ 914²
unfoldable pub root_at_least : ℕ → InfluenceArea → Bool
root_at_least k x = leb (sq (k - 5) * x.0) (sq 914)

-- 01, Reduced load and figure: 1/4 + 45.7/√X is k/20 or less where 914² ≤ (k − 5)² X
unfoldable pub root_at_most : ℕ → InfluenceArea → Bool
root_at_most k x = leb (sq 914) (sq (k - 5) * x.0)

-- 01, Reduced load and figure: the least share, 1/2 where n is 1, 2/5 where n is 2 or more
unfoldable pub least_twentieths : ℕ → ℕ
least_twentieths n = cond (one_floor n) 10 8

-- 01, Reduced load and figure: the share of a formula line, 1/4 + 45.7/√X, at most 1, and at least the least share.
-- At X = 0, which no formula line has, it is 1
unfoldable pub formula_share : ℕ → InfluenceArea → Share
formula_share n x =
    cond (root_at_least 20 x) (Twentieths 20)
    (cond (root_at_most (least_twentieths n) x) (Twentieths (least_twentieths n)) (Root x))

-- 01, Reduced load and figure: the twentieths of a share that has no root
unfoldable pub clamped_share : Share → Option ℕ
clamped_share (Twentieths k) = Some k
clamped_share (Root x) = None

-- 01, Reduced load and figure: where "the formula lines' share is clamped", to 1, 1/2 or 2/5: its twentieths
unfoldable pub clamped_of : ℕ → InfluenceArea → Option ℕ
clamped_of n x = clamped_share (formula_share n x)

-- 01, Reduced load and figure: "Class 2, and class 1 above 5,000: share 1 where n is 1, else 4/5", in twentieths
abbrev pub heavy_twentieths : ℕ → ℕ
heavy_twentieths n = cond (one_floor n) 20 16

-- 01, Reduced load and figure: the share of a line that the formula is not for, in twentieths; class 3 has 1. It is asked for a
-- class 1 to 3 alone: any other number is refused before
unfoldable pub other_twentieths : ℕ → ℕ → ℕ
other_twentieths class n = cond (eqb class 3) 20 (heavy_twentieths n)

-- 01, Reduced load and figure: the share of a line of this load and class, at n floors and the influence area x
unfoldable pub share_of : ℕ → ℕ → ℕ → InfluenceArea → Share
share_of load class n x = cond (is_formula load class) (formula_share n x) (Twentieths (other_twentieths class n))
