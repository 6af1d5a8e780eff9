-- `sheet_writer::fits` meets its contract: no sheet is longer than the room that suffices for all. Assumes nothing.
use Rattle.std.proofs.Common.{sym, ◌∙◌, ap, ℕ, leb, length, arith, le-leb}
use Rattle.sheet.specs.Seen.{sheet_seen}
use Rattle.sheet.proofs.Seen.{seen_keeps}
use Rattle.sheet_text.specs.Written.{written}
use Rattle.sheet_writer.proofs.Sizes.{written_most}
use Rattle.sheet_writer.proofs.fits.Goals as goal

pub returns-then-suffices : goal.returns-then-suffices
returns-then-suffices c =
    let s = sheet_seen c.args.sheet in
    let most = written_most s (seen_keeps c.args.sheet c.requires) in
    le-leb _ c.args.room c.if-suffices.true ∙ sym (le-leb (length (written s)) c.args.room (omega (arith, most)))

pub returns-else-suffices : goal.returns-else-suffices
returns-else-suffices c =
    ap (λ (k : ℕ). leb k c.args.room) c.sheet_length.ensures
