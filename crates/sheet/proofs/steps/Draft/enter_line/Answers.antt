-- `sheet::steps::Draft::enter_line` meets its contract: a refused line leaves the column as it was. Assumes nothing.
use Rattle.std.proofs.Common.{◌≡◌, ◌∙◌, sym, ap, ℕ, ◌≤◌}
use Rattle.std.proofs.lemmas.Result.{err_from_is_err_and}
use Rattle.refusal.specs.Said.{number_told}
use Rattle.refusal.proofs.Said.{number_positive, not_zero}
use Rattle.column.specs.declared.Line.{Line}
use Rattle.column.specs.declared.Column.{Column}
use Rattle.column.specs.Column.{Outcome}
use Rattle.column.specs.Column.{entered_of}
use Rattle.column.proofs.Reach.{entered_refused}
use Rattle.sheet.specs.Sheet.{with_outcome, if_taken, valued}
use Rattle.sheet.proofs.steps.Draft.enter_line.Goals as goal

-- a line that is refused leaves the column as it was
stays : (d : Column) (x : Line) {n : ℕ} {new : Column} → 1 ≤ n → record { number = n; column = new } ≡ entered_of d x → new ≡ d
unfolding entered_of
stays d x some e = ap (λ (o : Outcome). o.column) (e ∙ entered_refused d x _ some (sym (ap (λ (o : Outcome). o.number) e)))

pub returns-in_err-enter : goal.returns-in_err-enter
unfolding valued if_taken number_told
returns-in_err-enter c =
    let d = c.args.self.now in
    let p = err_from_is_err_and c.from_residual.result c.from_residual.ensures.1 in
    let e = c.in_err-enter.ensures.entered in
    let some = number_positive c.in_err-enter.field-0.0 in
    rw (p.1, p.2, stays d.sheet.column c.args.line some e, ← e, not_zero some)

pub returns : goal.returns
unfolding valued if_taken number_told
returns c = ap (λ (o : Outcome). with_outcome c.args.self.now o) c.in_ok-enter.ensures.entered
