-- Those before the index are taken, and the rest are checked from there. Assumes nothing.
use Rattle.std.proofs.Common.{◌≡◌, [], length, take, drop}
use Rattle.effects.specs.Check.{checked_from}
use Rattle.effects.proofs.check_each.Given as goal

abbrev pub invariant-loop-i : goal.invariant-loop-i
invariant-loop-i g l =
    record {
      count : length l.newtons ≡ g.row.N;
      checked : checked_from (take l.i l.newtons) (drop l.i l.effect-items) ≡ checked_from [] l.effect-items;
    }
