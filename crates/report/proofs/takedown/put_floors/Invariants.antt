-- `report::takedown::put_floors` meets its contract: the loop has put the lines of the floors so far. Assumes nothing.
use Rattle.std.proofs.Common.{◌≡◌}
use Rattle.text.specs.inner.Texts.{put}
use Rattle.report.specs.inner.Table.{table_lines}
use Rattle.report.proofs.takedown.put_floors.Given as goal

abbrev pub invariant-loop-above : goal.invariant-loop-above
invariant-loop-above l = l.output ≡ put l.initial.output (table_lines l.table l.above)
