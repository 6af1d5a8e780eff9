-- The root part of the share in whole units, which spares most lines a search; no reduced load depends on it.
-- Assumes nothing.
use Rattle.std.specs.Prelude.{Option, None, Some, ℕ, ◌+◌, ◌*◌, ◌^◌, ltb}
use Rattle.reduction.specs.declared.InfluenceArea.{InfluenceArea}
use Rattle.reduction.specs.declared.share.Share.{Share}
use Rattle.reduction.specs.declared.share.Share.TheVariants.{Twentieths, Root}
use Rattle.reduction.specs.Least.{sq, least_from}
use Rattle.reduction.specs.Share.{formula_share}

-- No part of the paper: 914/(5 √X), the root part of 4 × share, in units of 2⁻¹⁹, rounded down: the greatest s with
-- 25 × X × s² ≤ (914 × 2¹⁹)². At 1 dm² or more it is below 914 × 2¹⁹
unfoldable pub root_scale : InfluenceArea → ℕ
root_scale x = least_from (λ s. ltb (sq (914 * 2 ^ 19)) (25 * x.0 * sq (s + 1))) 0 (914 * 2 ^ 19)

-- No part of the paper: the scale of a share that is the root
unfoldable pub share_scale : Share → Option ℕ
share_scale (Twentieths k) = None
share_scale (Root x) = Some (root_scale x)

-- No part of the paper: the scale of all formula lines at n floors and the influence area x, where their share is not clamped
unfoldable pub scale_of : ℕ → InfluenceArea → Option ℕ
scale_of n x = share_scale (formula_share n x)
