-- `sheet::read_in` meets its contract: reading on from here, with the sheet so far, gives what reading the whole text gives. Assumes nothing.
use Rattle.std.proofs.Common.{◌≡◌, ◌≤◌, length, drop}
use Rattle.text.specs.Lines.{split}
use Rattle.sheet.specs.Sheet.{read_from, read_sheet}
use Rattle.sheet.proofs.Kept.{Kept}
use Rattle.sheet.proofs.Newlines.{newlines_from}
use Rattle.sheet.proofs.read_in.Given as goal

abbrev pub invariant-loop-end : goal.invariant-loop-end
invariant-loop-end l = record {
  on : read_sheet l.text ≡ read_from l.line l.at l.draft (split (drop l.at l.text));
  kept : Kept l.draft;
  left : l.end-iterator ≡ newlines_from l.text l.at;
  inside : l.at ≤ length l.text;
  lines : l.line ≤ l.at;
  short : length l.text ≤ 32768;
}
