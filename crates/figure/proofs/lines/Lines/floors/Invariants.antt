-- `figure::lines::Lines::floors` meets its contract: the loop has found the floors of the lines so far. Assumes nothing.
use Rattle.std.proofs.Common.{◌≡◌, ◌≤◌, map, take}
use Rattle.column.specs.Line.{unpacked}
use Rattle.column.specs.Accepted.{last_floor}
use Rattle.figure.specs.Carried.{floors_of}
use Rattle.figure.proofs.lines.Lines.floors.Given as goal

abbrev pub invariant-loop-line : goal.invariant-loop-line
invariant-loop-line l =
    (l.floors ≤ l.line-index)
    × (l.floors ≡ floors_of (map unpacked (take l.line-index l.self.numbers.now)))
    × (l.above ≡ last_floor (map unpacked (take l.line-index l.self.numbers.now)))
