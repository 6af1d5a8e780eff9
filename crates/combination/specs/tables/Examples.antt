-- Paper 01's combination cases: the effects in newtons, and the sums and rows that govern.
-- Assumes nothing.
use Rattle.std.specs.Prelude.{◌≡◌, List, [], ◌∷◌, ℤ, pos}
use Rattle.effects.specs.declared.PerLoad.{PerLoad}
use Rattle.refusal.specs.Said.{gives}
use Rattle.effects.specs.theorems.Doubles.{doubles_of}
use Rattle.combination.specs.Governing.{Best}
use Rattle.combination.specs.Combine.{row_of, combined_of}

-- a case: the effects, and the rows with the greatest and the least sum
pub record Example : Type 0 where
  pub newtons : PerLoad ℤ
  pub greatest : Best
  pub least : Best

-- dead, live and wind, the rest 0
abbrev newtons : ℤ → ℤ → ℤ → PerLoad ℤ
newtons d l w = record { dead = d; live = l; roof = pos 0; snow = pos 0; rain = pos 0; wind = w; quake = pos 0 }

-- 01, Figures to check against, and The sheet: its cases
unfoldable pub examples : List Example
examples =
    -- 01, Figures to check against: "with D = 100,000, W = 60,000 and the rest, L too, 0"
    record {
      newtons = newtons (pos 100000) (pos 0) (pos 60000);
      greatest = record { row = 14; tenths = pos 1800000 };
      least = record { row = 23; tenths = pos 300000 };
    }
    -- 01, The sheet: the sample, whose live effect is the figure 4,185,600 over 100
    ∷ record {
      newtons = newtons (pos 100000) (pos 41856) (pos 0);
      greatest = record { row = 2; tenths = pos 1869696 };
      least = record { row = 22; tenths = pos 900000 };
    }
    ∷ []

-- the effects, handed over as doubles, have these governing rows
abbrev pub Holds : Example → Type 0
Holds x = combined_of (doubles_of x.newtons) ≡ gives (record { greatest = row_of x.greatest; least = row_of x.least })
