-- `combination::combine` meets its contract: the check decides, and what governs is of the numbers that it gives. Assumes nothing.
use Rattle.std.proofs.Common.{◌∙◌, ap}
use Rattle.std.proofs.lemmas.Result.{err_from_is_err_and}
use Rattle.refusal.specs.Said.{told}
use Rattle.effects.specs.Check.{said_checked}
use Rattle.combination.specs.Combine.{with_double, combined, combined_of}
use Rattle.combination.proofs.Answers.{promised}
use Rattle.combination.proofs.combine.Goals as goal

pub returns-in_err-newtons : goal.returns-in_err-newtons
unfolding told said_checked combined combined_of
returns-in_err-newtons c =
    let e = c.args.effects in
    let p = err_from_is_err_and c.from_residual.result c.from_residual.ensures.1 in
    promised e (rw (p.1, p.2) (ap (combined e) c.in_err-newtons.ensures))

pub returns : goal.returns
unfolding said_checked combined combined_of
returns c =
    let e = c.args.effects in
    promised e (c.with_double.ensures ∙ (ap (with_double e) c.govern.ensures.0 ∙ ap (combined e) c.in_ok-newtons.ensures))
