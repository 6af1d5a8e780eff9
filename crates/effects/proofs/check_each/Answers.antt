-- `effects::check_each` meets its contract: each effect in turn is taken, or the answer is its refusal. Assumes nothing.
use Rattle.std.proofs.Common.{◌∙◌, ap, ◌+◌, drop, length-set, arith, rules, w64}
use Rattle.std.proofs.lemmas.List.{take_more_set, take_all, drop_all}
use Rattle.std.proofs.lemmas.Result.{err_from_is_err_and}
use Rattle.refusal.specs.Said.{told}
use Rattle.effects.specs.Check.{checked_from}
use Rattle.std.proofs.lemmas.Int.{to_z-of_z}
use Rattle.effects.proofs.Checks.{goes_on, ends}
use Rattle.effects.proofs.check_each.Goals as goal

pub returns-in_err-newtons : goal.returns-in_err-newtons
returns-in_err-newtons g c =
    let p = err_from_is_err_and c.from_residual.result c.from_residual.ensures.1 in
    rw (p.1, p.2) (ends _ c.args.effects c.loop-i.i c.effect-item.result (search rules) _ c.in_err-newtons.ensures ∙ c.loop-i.invariant.checked)

pub loop-i-preserved : goal.loop-i-preserved
loop-i-preserved g c =
    let z = c.in_ok-newtons.field-0 in
    let same = to_z-of_z w64 z (search rules) in
    let more = take_more_set c.loop-i.newtons c.loop-i.i z (omega arith) in
    let step = goes_on _ c.args.effects c.loop-i.i c.effect-item.result (search rules) _ c.in_ok-newtons.ensures in
    record {
      count = simp length-set c.loop-i.invariant.count;
      checked = rw same (ap (λ taken. checked_from taken (drop (c.loop-i.i + 1) c.args.effects)) more ∙ step ∙ c.loop-i.invariant.checked);
    }

pub returns : goal.returns
unfolding told checked_from
returns g c =
    let taken = take_all c.loop-i.i c.loop-i.newtons (omega arith) in
    let rest = drop_all c.loop-i.i c.args.effects (search rules) in
    rw (taken, rest) at c.loop-i.invariant.checked
