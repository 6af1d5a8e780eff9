-- `trial_sheet::put_back` meets its contract: there is room for every sheet. Assumes nothing.
use Rattle.std.proofs.Common.{rules, ◌≡◌, sym, ◌∙◌, ◌≤◌, length}
use Rattle.refusal.specs.Said.{gives, told}
use Rattle.refusal.proofs.Said.{told_gives_it, told_is_given}
use Rattle.sheet.specs.Seen.{sheet_seen}
use Rattle.sheet_text.specs.Written.{written}
use Rattle.text.specs.Put.{fronted}
use Rattle.text.proofs.Puts.{fronted_take}
use Rattle.sheet_writer.specs.Saving.{saved_text}
use Rattle.trial_sheet.proofs.Back.{back_told, back_sized}
use Rattle.trial_sheet.proofs.put_back.Goals as goal
use Rattle.trial_sheet.proofs.put_back.Goals.{After-write}

-- so many bytes are put
answered : (c : After-write) → told c.write.result ≡ gives (length (written (sheet_seen c.args.sheet)))
answered c =
    let room : 12288 ≤ length c.args.back.now = search rules in
    c.write.ensures.answered ∙ back_sized c.args.sheet c.doubles_of.result (length c.args.back.now) c.doubles_of.ensures c.requires room

-- and they are the text
put : (c : After-write) → c.write.new.out ≡ fronted (written (sheet_seen c.args.sheet)) c.args.back.now
unfolding saved_text
put c =
    let room : 12288 ≤ length c.args.back.now = search rules in
    rw (back_told c.args.sheet c.doubles_of.result (length c.args.back.now) c.doubles_of.ensures c.requires room) at c.write.ensures.put

pub returns-in-Ok : goal.returns-in-Ok
returns-in-Ok c =
    let a = (goal.at.returns-in-Ok c).After-write in
    rw (told_gives_it c.in-Ok.is (answered a), put a) (fronted_take (written (sheet_seen c.args.sheet)) c.args.back.now)

pub returns-in-Err : goal.returns-in-Err
returns-in-Err c =
    let wrong = sym c.in-Err.is ∙ told_is_given c.write.result (answered (goal.at.returns-in-Err c).After-write) in
    cc
