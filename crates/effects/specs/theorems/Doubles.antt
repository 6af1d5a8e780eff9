-- Whole newtons handed over as doubles.
-- Assumes nothing.
use Rattle.std.specs.Float.{binary64}
use Rattle.std.specs.Float.Ieee.{of_int}
use Rattle.std.specs.Prelude.{ℤ, Float}
use Rattle.effects.specs.declared.PerLoad.{PerLoad}

-- whole newtons handed over as doubles
unfoldable pub doubles_of : PerLoad ℤ → PerLoad Float
doubles_of n =
    record {
      dead = of_int binary64 n.dead;
      live = of_int binary64 n.live;
      roof = of_int binary64 n.roof;
      snow = of_int binary64 n.snow;
      rain = of_int binary64 n.rain;
      wind = of_int binary64 n.wind;
      quake = of_int binary64 n.quake;
    }
