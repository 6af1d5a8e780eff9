-- `figure::lines::Lines::area` meets its contract: the loop has summed the lines so far. Assumes nothing.
use Rattle.std.proofs.Common.{◌≡◌, ◌*◌, ◌≤◌, take}
use Rattle.figure.specs.inner.Totals.{areas}
use Rattle.figure.proofs.lines.Lines.area.Given as goal

abbrev pub invariant-loop-line : goal.invariant-loop-line
invariant-loop-line l = (l.area ≤ l.line-index * 200000) × (l.area ≡ areas (take l.line-index l.self.numbers.now))
