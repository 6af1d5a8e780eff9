-- Paper 01, "Member, line, floor" and "Reduced load and figure": how large what holds at a floor of a column can be.
-- Assumes nothing.
use Rattle.std.specs.Prelude.{◌≤◌}
use Rattle.column.specs.Line.{lowest_floor}
use Rattle.figure.specs.declared.Working.{Working}

-- 01, Member, line, floor: n is at most the 64 floors that a line can have, X at most 4 times 256 areas of 200,000 dm², and the
-- figure at most 50,000 N/m² on as many such areas
pub record Most (w : Working) : Type 0 where
  pub floors : w.floors ≤ lowest_floor
  pub influence : w.influence.0 ≤ 204800000
  pub figure : w.figure ≤ 2560000000000
