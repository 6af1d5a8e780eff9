-- `figure::descent::work_out_all` meets its contract: the table has what holds at every floor down to the last line carried. Assumes nothing.
use Rattle.std.proofs.Common.{◌≡◌}
use Rattle.column.specs.Seen.{column_seen}
use Rattle.figure.specs.inner.Descent.{left, Descended}
use Rattle.figure.proofs.Workings.{passed_to}
use Rattle.figure.proofs.descent.work_out_all.Given as goal

abbrev pub invariant-loop-new : goal.invariant-loop-new
invariant-loop-new l =
    Descended l.column.member l.lines.numbers.now l.here
    × (l.new-iterator.rest.now ≡ left l.lines.numbers.now l.here.carried)
    × (l.table ≡ passed_to (column_seen l.column) l.here.floor)
