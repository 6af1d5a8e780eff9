-- `report::put_refusal` meets its contract: the line finds room. Assumes nothing.
use Rattle.std.proofs.Common.{refl, ◌≤◌, arith, length, rules}
use Rattle.text.proofs.Puts.{put_front}
use Rattle.report.specs.Report.{refusal_line, refusal_text}
use Rattle.report.proofs.Lengths.{refusal_most}
use Rattle.report.proofs.put_refusal.Goals as goal

pub returns : goal.returns
unfolding refusal_text
returns c =
    let size : 4096 ≤ length c.args.out.now = search rules in
    let most = refusal_most c.args.number c.args.line (search rules) (search rules) in
    let p = put_front _ (refusal_line c.args.number c.args.line) c.put_refusal_line.ensures refl (omega (arith, most)) in
    record { length = p.ends; put = p.is; prefix_len = p.counts }
