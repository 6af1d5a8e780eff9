-- `records::figure_of` meets its contract: opening, entering and asking answer as the list does. Assumes nothing.
use Rattle.std.proofs.Common.{◌≡◌, ◌∙◌, ap, rules, Err, ℕ}
use Rattle.refusal.specs.Said.{Told, told}
use Rattle.column.specs.declared.Column.{Column}
use Rattle.column.specs.Column.{member_of, opened_as}
use Rattle.figure.specs.Asked.{asked}
use Rattle.records.specs.Listed.{at_place, listed_of}
use Rattle.records.specs.inner.Entering.{entering_told, then_asked}
use Rattle.records.proofs.Answers.{promised}
use Rattle.records.proofs.InTurn.{opened_listed, given_without, opening_refused}
use Rattle.records.proofs.figure_of.Goals as goal
use Rattle.records.proofs.figure_of.Goals.{After-enter_all}

pub returns-in_err-column : goal.returns-in_err-column
unfolding told
returns-in_err-column c =
    let m = member_of c.args.code in
    let err : c.from_residual.result ≡ Err c.in_err-column.field-0.0 = search rules in
    promised m c.args.lines.now c.args.floor
    (rw err (opening_refused m c.args.lines.now c.args.floor c.open.result c.open.ensures.opened c.in_err-column.ensures))

-- the answer after the lines is that of the list
after_lines : (c : After-enter_all) → then_asked (entering_told c.enter_all.result c.enter_all.new.column) c.args.floor ≡ listed_of (member_of c.args.code) c.args.lines.now c.args.floor
unfolding opened_as told
after_lines c =
    let m = member_of c.args.code in
    let is = given_without c.open.result c.in_ok-column.ensures in
    ap (λ (t : Told ℕ Column). then_asked t c.args.floor) c.enter_all.ensures.0
    ∙ opened_listed m c.args.lines.now c.args.floor (rw is at c.open.ensures.opened)

pub enter_all-requires : goal.enter_all-requires
unfolding told
enter_all-requires c = rw (given_without c.open.result c.in_ok-column.ensures) at c.open.ensures.reached

pub returns-in_err-enter_all : goal.returns-in_err-enter_all
unfolding told entering_told then_asked
returns-in_err-enter_all c =
    let m = member_of c.args.code in
    let err : c.from_residual-in_err-enter_all.result ≡ Err c.in_err-enter_all.field-0.0 = search rules in
    promised m c.args.lines.now c.args.floor (rw err (rw c.in_err-enter_all.was at (after_lines (goal.at.returns-in_err-enter_all c).After-enter_all)))

pub returns : goal.returns
unfolding entering_told then_asked
returns c =
    let m = member_of c.args.code in
    promised m c.args.lines.now c.args.floor
    (c.without_place-2.ensures
    ∙ (ap (at_place 0) (c.ask_in.ensures ∙ ap (λ (d : Column). asked d c.args.floor) c.lend.ensures)
    ∙ (rw c.in_ok-enter_all.was at (after_lines (goal.at.returns c).After-enter_all))))
