-- `sheet_writer::lines::put_lines` meets its contract: the loop has put the lines so far. Assumes nothing.
use Rattle.std.proofs.Common.{◌≡◌, map, take}
use Rattle.text.specs.Put.{put_all}
use Rattle.column.specs.Line.{unpacked}
use Rattle.sheet_writer.specs.inner.Parts.{floors_parts}
use Rattle.sheet_writer.proofs.lines.put_lines.Given as goal

abbrev pub invariant-loop-number : goal.invariant-loop-number
invariant-loop-number g l = l.sink ≡ put_all g.S.Sink.with_text l.initial.sink (floors_parts (map unpacked (take l.number-index l.numbers)))
