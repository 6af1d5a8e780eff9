-- `records::entering::enter_all`: entering what is left gives what entering all from the start gives. Assumes nothing.
use Rattle.std.proofs.Common.{◌≡◌, ◌+◌, drop}
use Rattle.column.specs.Column.{Reached}
use Rattle.records.specs.inner.Entering.{entered_from}
use Rattle.records.proofs.entering.enter_all.Given as goal

abbrev pub invariant-loop-before : goal.invariant-loop-before
invariant-loop-before l =
    Reached l.column × (entered_from (l.before + 1) l.column (drop l.before l.lines) ≡ entered_from 1 l.initial.column l.lines)
