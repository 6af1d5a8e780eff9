-- `sheet_writer::write` meets its contract: the effects first, and then the room. Assumes nothing.
use Rattle.std.proofs.Common.{◌≡◌, length}
use Rattle.std.proofs.lemmas.Result.{err_from_is_err_and}
use Rattle.refusal.specs.Said.{gives, told}
use Rattle.text.specs.Put.{fronted}
use Rattle.column.specs.Seen.{column_seen}
use Rattle.sheet_writer.specs.Saving.{six_checked, saved_text, sized}
use Rattle.sheet_writer.proofs.Checks.{six_taken_are, saving_whole, saving_refused}
use Rattle.sheet_writer.proofs.RoundTrip.{six_kept}
use Rattle.sheet_writer.proofs.write.Goals as goal
use Rattle.sheet_writer.proofs.write.Goals.{In_ok-effects}

pub returns-in_err-effects-clause-answered : goal.returns-in_err-effects-clause-answered
unfolding sized told
returns-in_err-effects-clause-answered c =
    let p = err_from_is_err_and c.from_residual.result c.from_residual.ensures.1 in
    rw (p.1, p.2, saving_refused (column_seen c.args.column) c.args.effects (length c.args.out.now) c.in_err-effects.field-0.0 c.in_err-effects.ensures)

pub returns-in_err-effects-clause-put : goal.returns-in_err-effects-clause-put
unfolding saved_text fronted
returns-in_err-effects-clause-put c =
    rw (saving_refused (column_seen c.args.column) c.args.effects (length c.args.out.now) c.in_err-effects.field-0.0 c.in_err-effects.ensures)

taken : (c : In_ok-effects) → six_checked c.args.effects ≡ gives c.in_ok-effects.effects
taken c = six_taken_are _ c.in_ok-effects.ensures

pub write_whole-requires : goal.write_whole-requires
write_whole-requires c = six_kept c.args.effects (taken (goal.at.write_whole-requires c).In_ok-effects)

pub returns-clause-answered : goal.returns-clause-answered
returns-clause-answered c =
    rw (saving_whole (column_seen c.args.column) c.args.effects (length c.args.out.now) (taken (goal.at.returns-clause-answered c).In_ok-effects)) c.write_whole.ensures.answered

pub returns-clause-put : goal.returns-clause-put
returns-clause-put c =
    rw (saving_whole (column_seen c.args.column) c.args.effects (length c.args.out.now) (taken (goal.at.returns-clause-put c).In_ok-effects)) c.write_whole.ensures.put
