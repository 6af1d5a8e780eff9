-- `figure::any_order::floors_marked` meets its contract: the loop has found the floors of the lines so far. Assumes nothing.
use Rattle.std.proofs.Common.{◌≤◌, map, take}
use Rattle.column.specs.Line.{unpacked}
use Rattle.figure.proofs.Marked.{Found}
use Rattle.figure.proofs.any_order.floors_marked.Given as goal

abbrev pub invariant-loop-line : goal.invariant-loop-line
invariant-loop-line l = (l.floors ≤ l.line-index) × Found (map unpacked (take l.line-index l.lines)) l.seen l.floors
