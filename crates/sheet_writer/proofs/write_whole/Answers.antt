-- `sheet_writer::write_whole` meets its contract: with room for it the sheet is put whole, and else nothing. Assumes nothing.
use Rattle.std.proofs.Common.{rules, refl, ◌≡◌, ◌∙◌, ap, true, false, ◌≤◌, leb, length, arith, leb-true}
use Rattle.refusal.specs.Refusal.{number_of}
use Rattle.refusal.specs.Said.{told}
use Rattle.text.specs.declared.Output.{Output}
use Rattle.text.specs.Put.{fronted}
use Rattle.text.proofs.Puts.{Front, put_front, put_same}
use Rattle.member.proofs.Tests.{passed, failed}
use Rattle.sheet.specs.Seen.{sheet_seen}
use Rattle.sheet_text.specs.Written.{written}
use Rattle.sheet_writer.specs.Saving.{saved_text, sized}
use Rattle.sheet_writer.specs.inner.Parts.{sheet_parts}
use Rattle.sheet_writer.proofs.Texts.{sheet_text}
use Rattle.sheet_writer.proofs.Checks.{with_room, without_room}
use Rattle.sheet_writer.proofs.write_whole.Goals as goal
use Rattle.sheet_writer.proofs.write_whole.Goals.{After-put_sheet, Then-not-fits}

short : (c : Then-not-fits) → leb (length (written (sheet_seen c.args.sheet))) (length c.args.out.now) ≡ false
short c = failed c.fits.ensures c.if-not-fits.true

pub returns-then-not-fits-clause-answered : goal.returns-then-not-fits-clause-answered
unfolding sized told number_of
returns-then-not-fits-clause-answered c = rw (without_room _ _ (short (goal.at.returns-then-not-fits-clause-answered c).Then-not-fits))

pub returns-then-not-fits-clause-put : goal.returns-then-not-fits-clause-put
unfolding saved_text fronted
returns-then-not-fits-clause-put c = rw (without_room _ _ (short (goal.at.returns-then-not-fits-clause-put c).Then-not-fits))

room : (c : After-put_sheet) → leb (length (written (sheet_seen c.args.sheet))) (length c.args.out.now) ≡ true
room c = passed c.fits.ensures c.if-not-fits.false

-- the sheet is put whole
whole : (c : After-put_sheet) → Front c.args.out.now (written (sheet_seen c.args.sheet)) c.put_sheet.new.sink.buffer.now c.put_sheet.new.sink.at
whole c =
    let s = sheet_seen c.args.sheet in
    let size : length (written s) ≤ length c.args.out.now = leb-true _ _ (room c) in
    rw (sheet_text s) at (put_front _ (sheet_parts s) c.put_sheet.ensures refl (omega (arith, size, ap length (sheet_text s))))

pub returns-clause-answered : goal.returns-clause-answered
unfolding sized told
returns-clause-answered c =
    let t = (goal.at.returns-clause-answered c).After-put_sheet in
    rw (with_room _ _ (room t), (whole t).ends)

pub returns-clause-put : goal.returns-clause-put
unfolding saved_text
returns-clause-put c =
    let t = (goal.at.returns-clause-put c).After-put_sheet in
    let same = ap (λ (o : Output). o.buffer.ghost_name) t.put_sheet.ensures ∙ put_same _ _ in
    let is = (whole t).is in
    rw (with_room _ _ (room t)) (search rules)

pub returns-clause-prefix_len : goal.returns-clause-prefix_len
returns-clause-prefix_len c =
    let t = (goal.at.returns-clause-prefix_len c).After-put_sheet in
    let same = ap (λ (o : Output). o.buffer.ghost_name) t.put_sheet.ensures ∙ put_same _ _ in
    let counts = (whole t).counts in
    search rules
