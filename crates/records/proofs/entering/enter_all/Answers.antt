-- `records::entering::enter_all` meets its contract: each line is entered while nothing is refused. Assumes nothing.
use Rattle.std.proofs.Common.{rules, ◌≡◌, ◌∙◌, Ok, Err}
use Rattle.refusal.specs.Said.{number_told}
use Rattle.refusal.proofs.Said.{number_positive}
use Rattle.records.specs.inner.Entering.{entering_told}
use Rattle.records.proofs.InTurn.{entered_next, entered_stop}
use Rattle.records.proofs.entering.enter_all.Goals as goal

pub loop-before-preserved : goal.loop-before-preserved
unfolding number_told
loop-before-preserved c =
    let l = c.loop-before in
    let is : c.enter.result ≡ Ok c.in_default.field-0 = search rules in
    (c.enter.ensures.reached, entered_next l.column c.enter.new.self c.args.lines.now l.before c.loop-before-test.true _ (rw is at c.enter.ensures.entered) ∙ l.invariant.1)

pub returns-in-Err : goal.returns-in-Err
unfolding entering_told number_told
returns-in-Err c =
    let l = c.loop-before in
    let is : c.enter.result ≡ Err c.in-Err.refusal = search rules in
    (entered_stop l.column c.enter.new.self c.args.lines.now l.before c.loop-before-test.true _ (rw is at c.enter.ensures.entered) (number_positive c.in-Err.refusal) ∙ l.invariant.1, c.enter.ensures.reached)
