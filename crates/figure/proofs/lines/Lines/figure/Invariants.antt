-- `figure::lines::Lines::figure` meets its contract: the loop has summed the lines so far. Assumes nothing.
use Rattle.std.proofs.Common.{◌≡◌, ◌*◌, ◌≤◌, take}
use Rattle.figure.specs.inner.Totals.{figures}
use Rattle.figure.proofs.lines.Lines.figure.Given as goal

abbrev pub invariant-loop-line : goal.invariant-loop-line
invariant-loop-line l = (l.figure ≤ l.line-index * 10000000000) × (l.figure ≡ figures l.shares (take l.line-index l.self.numbers.now))
