-- `error_bound::enter_all` meets its contract: entering what is left gives what entering all from the start gives, and what is
-- told of the refused ones goes on alike. Assumes nothing.
use Rattle.std.proofs.Common.{◌≡◌, ◌+◌, ◌≤◌, length}
use Rattle.column.specs.Column.{after, Reached}
use Rattle.column.specs.Line.{entries_of}
use Rattle.error_bound.specs.Entries.{refusals_told}
use Rattle.error_bound.specs.inner.Counting.{numbers_on, noted_all}
use Rattle.error_bound.proofs.enter_all.Given as goal

abbrev pub invariant-loop-line : goal.invariant-loop-line
invariant-loop-line l =
    let left = entries_of l.line-iterator.0.now in
    record {
      reached : Reached l.column;
      column : after l.column left ≡ after l.initial.column (entries_of l.entries);
      places : l.place + length left ≤ length l.entries;
      few : l.refusals.count ≤ l.place;
      refusals : noted_all (refusals_told l.refusals) (l.place + 1) (numbers_on l.column left) ≡ noted_all (refusals_told l.initial.refusals) 1 (numbers_on l.initial.column (entries_of l.entries));
    }
