-- `sheet_writer::lines::put_sheet` meets its contract: the member's line, the floor lines and the effects. Assumes nothing.
use Rattle.text.proofs.Puts.{put_then}
use Rattle.sheet_writer.specs.inner.Parts.{sheet_parts}
use Rattle.sheet_writer.proofs.lines.put_sheet.Goals as goal

pub returns : goal.returns
unfolding sheet_parts
returns g c = rw (c.put_effects.ensures, c.put_lines.ensures, c.numbers.ensures.lines, c.put_member.ensures, put_then, put_then)
