-- Pasting what is left goes on as pasting the whole list does, behind so many kept lines. Assumes nothing.
use Rattle.std.proofs.Common.{◌≡◌, ◌-◌, ◌≤◌}
use Rattle.column.specs.Line.{entries_of}
use Rattle.column.specs.Accepted.{last_floor}
use Rattle.column.specs.Column.{lines_of, column_from, Reached}
use Rattle.column.specs.Pasted.{pasted_from, pasted_of}
use Rattle.column.proofs.in_place.paste.Given as goal

abbrev pub invariant-loop-line : goal.invariant-loop-line
invariant-loop-line l = record {
  filled : l.count ≤ l.filled;
  reached : Reached (column_from l.member l.filled l.held);
  last : l.last ≡ last_floor (lines_of (column_from l.member l.filled l.held));
  pasted : pasted_from (l.filled - l.count) (column_from l.member l.filled l.held) (entries_of l.line-iterator.0.now) ≡ pasted_of (column_from l.member l.count l.initial.held) (entries_of l.lines);
}
