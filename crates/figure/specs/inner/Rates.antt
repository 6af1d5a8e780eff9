-- The shares of lines as rates.
-- Assumes nothing.
use Rattle.std.specs.Prelude.{ℕ, ◌+◌, ◌*◌}
use Rattle.reduction.specs.declared.InfluenceArea.{InfluenceArea}
use Rattle.reduction.specs.declared.share.Share.{Share}
use Rattle.reduction.specs.declared.share.Share.TheVariants.{Twentieths, Root}
use Rattle.reduction.specs.Share.{formula_share}
use Rattle.reduction.specs.Scale.{root_scale}
use Rattle.figure.specs.declared.rates.Rate.{Rate}

-- so many twentieths in units of 2⁻²⁶; 19 twentieths more round up
unfoldable pub twentieths_rate : ℕ → Rate
twentieths_rate k = record { times = k * 3355444; plus = 63753436; doubt = 0 }

-- the root by its scale, which is rounded down to units of 2⁻²¹
unfoldable pub root_rate : ℕ → Rate
root_rate scale = record { times = (524288 + scale) * 32; plus = 67108832; doubt = 32 }

-- the rate of a share
unfoldable pub share_rate : Share → Rate
share_rate (Twentieths k) = twentieths_rate k
share_rate (Root x) = root_rate (root_scale x)

-- the rate of the formula lines' share at n floors and the influence area x
unfoldable pub rate_of : ℕ → InfluenceArea → Rate
rate_of n x = share_rate (formula_share n x)
