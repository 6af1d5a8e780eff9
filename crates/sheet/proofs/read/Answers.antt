-- `sheet::read` meets its contract: it begins with nothing read. Assumes nothing.
use Rattle.std.proofs.Common.{◌≡◌}
use Rattle.column.specs.Pasted.{number_or_0}
use Rattle.sheet.specs.Sheet.{reading_told, read_sheet}
use Rattle.sheet.specs.inner.Stopped.{reading_of}
use Rattle.sheet.proofs.ReadOn.{answer_keeps}
use Rattle.sheet.proofs.read.Goals as goal
use Rattle.sheet.proofs.read.Goals.{in-Ok, in-Err}

pub returns : goal.returns
unfolding reading_of reading_told number_or_0
returns c =
    let read : reading_told _ ≡ read_sheet c.args.text.now = elim c.match-read_in.branch [ in-Ok w ↦ rw w.refusal-is w.in-Ok.ensures | in-Err w ↦ rw w.refusal-is w.in-Err.ensures ] in
    record { read = read; keeps = answer_keeps c.args.text.now _ read }
