-- `report::put_printed` meets its contract: the report of the text, or the line of its refusal. Assumes nothing.
use Rattle.std.proofs.Common.{refl}
use Rattle.refusal.proofs.Said.{number_positive}
use Rattle.report.specs.Report.{reported_told}
use Rattle.report.proofs.Prints.{read_front, refused_front}
use Rattle.report.proofs.put_printed.Goals as goal

pub returns-in-Ok : goal.returns-in-Ok
unfolding reported_told
returns-in-Ok c =
    let r = c.in-Ok.ensures in
    let w = read_front c.args.text.now c.args.out.now r.reported refl r.put r.prefix_len in
    record { length = w.ends; put = w.is; prefix_len = w.counts }

pub returns-in-Err : goal.returns-in-Err
unfolding reported_told
returns-in-Err c =
    let r = c.in-Err.ensures in
    let p = rw c.number.ensures at c.put_refusal.ensures in
    let w = refused_front c.args.text.now c.args.out.now r.reported (number_positive c.in-Err.refused.refusal) r.put p.length p.put p.prefix_len in
    record { length = w.ends; put = w.is; prefix_len = w.counts }
