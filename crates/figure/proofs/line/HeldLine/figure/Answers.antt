-- `figure::line::HeldLine::figure` meets its contract: a formula line has the formula's rate. Assumes nothing.
use Rattle.std.proofs.Common.{◌≡◌, sym, ◌∙◌, ◌*◌, ◌≤◌, arith}
use Rattle.column.specs.Line.{unpacked}
use Rattle.figure.specs.inner.Shared.{figure_by}
use Rattle.figure.proofs.ByRate.{figure_formula}
use Rattle.figure.proofs.line.HeldLine.figure.Goals as goal
use Rattle.figure.proofs.line.HeldLine.figure.Goals.{After-formula_load}

product : (c : After-formula_load)
    → let p = c.formula_load.result * c.line_of-line.result.area.0 in
    (p ≡ figure_by c.args.shares (unpacked c.args.self.number)) × (p ≤ 10000000000)
product c =
    rw c.line_of-line.ensures
    (figure_formula c.args.shares (unpacked c.args.self.number) c.args.self.within (sym c.is_formula.ensures ∙ c.if-is_formula.true) (rw c.line_of-line.ensures at c.formula_load.ensures))

pub overflow_mul-result : goal.overflow_mul-result
overflow_mul-result c = omega (arith, (product (goal.at.overflow_mul-result c).After-formula_load).1)

pub returns-then-is_formula : goal.returns-then-is_formula
returns-then-is_formula c = product (goal.at.returns-then-is_formula c).After-formula_load
