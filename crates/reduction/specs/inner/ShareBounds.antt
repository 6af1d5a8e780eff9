-- What the private functions ask of a share and a load, so that no product passes 64 bits.
-- Assumes nothing.
use Rattle.std.specs.Prelude.{Bool, ℕ, ◌*◌, ◌^◌, ◌≤◌, leb}
use Rattle.reduction.specs.declared.InfluenceArea.{InfluenceArea}
use Rattle.reduction.specs.declared.share.Share.{Share}
use Rattle.reduction.specs.declared.share.Share.TheVariants.{Twentieths, Root}
use Rattle.reduction.specs.Least.{sq}

-- at most 1, and in the range that the formula leaves to a root
unfoldable pub Bounds : Share → ℕ → Type 0
Bounds (Twentieths k) load = (k ≤ 20) × (load ≤ 50000)
Bounds (Root x) load = (3713 ≤ x.0) × (x.0 ≤ 92821) × (load ≤ 5000)

-- the bounds, as a record so that the share and the load can be read off
pub record Fit (s : Share) (load : ℕ) : Type 0 where
  pub bounds : Bounds s load

-- a number of units of 2⁻¹⁹ is not above the root part of 4 × share
abbrev pub fits : InfluenceArea → ℕ → Bool
fits x s = leb (25 * x.0 * sq s) (sq (914 * 2 ^ 19))
