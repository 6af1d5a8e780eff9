-- `sheet::steps::Draft::open_member` meets its contract: before the member there is no column. Assumes nothing.
use Rattle.std.proofs.Common.{◌∙◌, ap}
use Rattle.std.proofs.lemmas.Result.{err_from_is_err_and}
use Rattle.refusal.specs.Said.{number_told}
use Rattle.refusal.proofs.Said.{number_positive, not_zero}
use Rattle.column.specs.declared.Column.{Column}
use Rattle.column.specs.Column.{Outcome}
use Rattle.column.specs.Column.{column_of, opened_as}
use Rattle.sheet_lines.specs.declared.Due.TheVariants as D
use Rattle.sheet.specs.Sheet.{with_outcome, if_taken, valued}
use Rattle.sheet.proofs.steps.Draft.open_member.Goals as goal

pub returns-in_err-self : goal.returns-in_err-self
unfolding valued if_taken opened_as number_told
returns-in_err-self c =
    let p = err_from_is_err_and c.from_residual.result c.from_residual.ensures.1 in
    let some = not_zero (number_positive c.in_err-self.field-0.0) in
    rw (p.1, p.2, ← c.in_err-self.ensures, some)

pub returns : goal.returns
unfolding valued if_taken opened_as number_told column_of
returns c =
    let d = c.args.self.now in
    let m = c.in_ok-self.field-0 in
    ap (λ (u : Column). record { number = 0; draft = record { due = D.Effect 0; sheet = record { column = record { member = m; count = u.count; held = u.held }; effects = d.sheet.effects } } }) c.requires
    ∙ ap (λ (o : Outcome). with_outcome d o) c.in_ok-self.ensures
