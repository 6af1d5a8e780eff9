-- `sheet_writer::counted::sheet_length` meets its contract: 64 bits hold the bytes of any sheet. Assumes nothing.
use Rattle.std.proofs.Common.{◌∙◌, ap, ◌+◌, zero-add, ◌<◌, ◌^◌, length, arith}
use Rattle.text.specs.Text.{joined}
use Rattle.sheet.specs.Seen.{sheet_seen}
use Rattle.sheet.proofs.Seen.{seen_keeps}
use Rattle.sheet_writer.specs.declared.counted.Counter.{Counter}
use Rattle.sheet_writer.specs.inner.Parts.{sheet_parts}
use Rattle.sheet_writer.proofs.Texts.{sheet_text}
use Rattle.sheet_writer.proofs.Sizes.{counted_all, written_most}
use Rattle.sheet_writer.proofs.counted.sheet_length.Goals as goal

pub returns : goal.returns
returns c =
    let s = sheet_seen c.args.sheet in
    let held : 0 + length (joined (sheet_parts s)) < 2 ^ 64 = omega (arith, written_most s (seen_keeps c.args.sheet c.requires), ap length (sheet_text s)) in
    ap (λ (k : Counter). k.bytes) (c.put_sheet.ensures ∙ counted_all 0 (sheet_parts s) held) ∙ (zero-add _ ∙ ap length (sheet_text s))
