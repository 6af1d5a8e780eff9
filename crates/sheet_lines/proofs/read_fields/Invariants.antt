-- `sheet_lines::read_fields` meets its contract: what is read so far and what follows is what the whole line gives. Assumes nothing.
use Rattle.std.proofs.Common.{◌≡◌, [], map, length, take, drop}
use Rattle.sheet_lines.specs.Form.{fields_from}
use Rattle.sheet_lines.proofs.read_fields.Given as goal

abbrev pub invariant-loop-i : goal.invariant-loop-i
invariant-loop-i g l = record {
  same : fields_from [] (map (λ key. key.now) l.keys) l.line 0 ≡ fields_from (take l.i l.numbers) (map (λ key. key.now) (drop l.i l.keys)) l.rest 0;
  count : length l.numbers ≡ g.row.N;
}
