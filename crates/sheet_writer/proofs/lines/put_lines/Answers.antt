-- `sheet_writer::lines::put_lines` meets its contract: the loop has put the lines so far. Assumes nothing.
use Rattle.std.proofs.Common.{refl, add-one, arith}
use Rattle.std.proofs.lemmas.List.{take_all}
use Rattle.text.specs.Put.{put_all}
use Rattle.text.proofs.Puts.{put_then}
use Rattle.sheet_writer.specs.inner.Parts.{floors_parts}
use Rattle.sheet_writer.proofs.Texts.{lines_next}
use Rattle.sheet_writer.proofs.lines.put_lines.Goals as goal

pub loop-number-init : goal.loop-number-init
unfolding floors_parts put_all
loop-number-init g c = refl

pub loop-number-preserved : goal.loop-number-preserved
loop-number-preserved g c =
    let i = c.loop-number.number-index in
    rw (add-one i, lines_next c.args.numbers.now i (omega arith), c.put_line.ensures, c.line_of.ensures, c.loop-number.invariant) (put_then _ _ _ _)

pub returns : goal.returns
returns g c = rw (take_all c.loop-number.number-index c.args.numbers.now (omega arith)) at c.loop-number.invariant
