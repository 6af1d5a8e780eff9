-- `sheet_lines::number::number_at` meets its contract: reading on from here gives what reading from the start gives. Assumes nothing.
use Rattle.std.proofs.Common.{◌≡◌, ◌<◌, ◌≤◌, ◌^◌, drop}
use Rattle.sheet_lines.specs.Number.{number_from, number_at}
use Rattle.sheet_lines.proofs.number.number_at.Given as goal

abbrev pub invariant-loop-byte : goal.invariant-loop-byte
invariant-loop-byte l = record {
  same : number_at l.text 0 ≡ number_from l.count l.value l.count (drop l.count l.text);
  place : l.byte-index ≡ l.count;
  value : l.value < 10 ^ l.count;
  count : l.count ≤ 13;
}
