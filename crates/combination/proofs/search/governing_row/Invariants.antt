-- `combination::search::governing_row` meets its contract: searching the sums from index i on gives what the whole search gives.
-- Assumes nothing.
use Rattle.std.proofs.Common.{◌≡◌, ◌+◌, ◌≤◌, ◌^◌, ℤ, Bool, nat_abs, drop}
use Rattle.combination.specs.Governing.{best_from, best}
use Rattle.combination.specs.inner.Sense.{Tests}
use Rattle.combination.proofs.search.governing_row.Given as goal

abbrev pub invariant-loop-i : goal.invariant-loop-i
invariant-loop-i g l = record {
  held : nat_abs l.tenths ≤ 2 ^ 53;
  best : (test : ℤ → ℤ → Bool) → Tests (goal.F-post g l.beats) test → best_from test (record { row = l.row; tenths = l.tenths }) (l.i + 1) (drop l.i l.sums.tenths) ≡ best test l.sums.tenths;
}
