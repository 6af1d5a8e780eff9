-- `figure::descent::Descent::figure_with` meets its contract: where the shares are alike, the figure above is the sum over its lines here too. Assumes nothing.
use Rattle.std.proofs.Common.{rules, ◌≡◌, sym, ◌∙◌, ap, arith, true, eqb, ℕ, ◌+◌, ◌≤◌, ◌++◌, List, sum_by}
use Rattle.std.specs.Prelude.{IsSome}
use Rattle.std.specs.Option.{option_eq}
use Rattle.std.proofs.lemmas.List.Sums.{sum_by-append}
use Rattle.column.specs.declared.Line.{Line}
use Rattle.column.specs.Line.{unpacked}
use Rattle.figure.specs.inner.Totals.{figures}
use Rattle.figure.specs.declared.shares.Shares.{Shares}
use Rattle.figure.specs.inner.Shared.{figure_by}
use Rattle.figure.proofs.HeldLines.{lines_lined, figures_most}
use Rattle.figure.proofs.Kept.{figure_kept}
use Rattle.figure.proofs.descent.Descent.figure_with.Goals as goal
use Rattle.figure.proofs.descent.Descent.figure_with.Goals.{After-figure}

-- the lines above and the new ones together
together : (s t : Shares) (front new carried : List ℕ) {figure more : ℕ} → 2 ≤ s.carried.floors → s.carried.floors ≤ t.carried.floors → IsSome t.clamped → option_eq eqb s.clamped t.clamped ≡ true
    → front ++ new ≡ carried → figure ≡ figures s front → more ≡ figures t new → figure + more ≡ figures t carried
together s t front new carried two more some e is above below =
    let same : figures s front ≡ figures t front = ap (λ (f : Line → ℕ). sum_by (λ n. f (unpacked n)) front) (figure_kept s t two more some e) in
    rw (above, below, same) (sym (ap (figures t) (sym is) ∙ sum_by-append (λ n. figure_by t (unpacked n)) front new))

is_sum : (c : After-figure) → c.args.self.figure + c.figure.result ≡ figures c.args.here c.args.carried.numbers.now
is_sum c =
    let d = c.args.self in
    let alike : option_eq eqb d.shares.clamped c.args.here.clamped ≡ true = search rules in
    together d.shares c.args.here d.carried.numbers.now c.args.new.numbers.now c.args.carried.numbers.now c.if-before-ge2.true c.requires.shares (sym c.if-is_some.ensures) alike
    c.requires.lines d.figure_is c.figure.ensures

pub overflow_add-result : goal.overflow_add-result
overflow_add-result c =
    omega (arith, is_sum (goal.at.overflow_add-result c).After-figure, figures_most c.args.here c.args.carried.numbers.now (lines_lined c.args.carried))

pub returns-then-eq : goal.returns-then-eq
returns-then-eq c = is_sum (goal.at.returns-then-eq c).After-figure
