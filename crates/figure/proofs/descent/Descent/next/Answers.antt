-- `figure::descent::Descent::next` meets its contract. Assumes nothing.
use Rattle.std.proofs.Common.{◌≡◌, sym, ◌∙◌, ap, arith, ℕ, ◌+◌, ◌≤◌, ◌++◌}
use Rattle.figure.specs.inner.Totals.{areas}
use Rattle.figure.proofs.HeldLines.{line_within, lines_lined, areas_most}
use Rattle.figure.proofs.Walk.{run_inside, run_front, run_areas, next_of}
use Rattle.figure.proofs.descent.Descent.next.Goals as goal
use Rattle.figure.proofs.descent.Descent.next.Goals.{After-first-carried, After-area}

-- the lines carried are those above and the new ones
carried : (c : After-first-carried) → c.first-carried.result.numbers.now ≡ c.args.self.carried.numbers.now ++ c.args.new.numbers.now
carried c = c.first-carried.ensures ∙ run_front c.requires.0 c.requires.1

pub first-carried-requires : goal.first-carried-requires
first-carried-requires c = run_inside c.requires.0 c.requires.1

-- and their formula lines' area is within its limit
sum : (c : After-area) → c.args.self.area.0 + c.area.result.0 ≡ areas c.first-carried.result.numbers.now
sum c = ap (λ (n : ℕ). c.args.self.area.0 + n) c.area.ensures.0 ∙ sym (ap areas (carried c.before) ∙ run_areas c.requires.0 c.requires.1)

most : (c : After-area) → c.args.self.area.0 + c.area.result.0 ≤ 51200000
most c = omega (arith, sum c, areas_most _ (lines_lined c.first-carried.result))

pub overflow_add-sum : goal.overflow_add-sum
overflow_add-sum c = omega (arith, most (goal.at.overflow_add-sum c).After-area)

pub shares_at-here-requires : goal.shares_at-here-requires
shares_at-here-requires c = (c.requires.0.code, most (goal.at.shares_at-here-requires c).After-area)

pub figure_with-requires-clause-lines : goal.figure_with-requires-clause-lines
figure_with-requires-clause-lines c = sym (carried (goal.at.figure_with-requires-clause-lines c).After-first-carried)

pub invariant_of-result : goal.invariant_of-result
invariant_of-result c = record { area_is = sum (goal.at.invariant_of-result c).After-area; figure_is = c.figure_with.ensures }

pub returns : goal.returns
returns c =
    next_of c.requires.0 c.requires.1 _ (line_within c.args.new 0 0 c.requires.1.some) (carried (goal.at.returns c).After-first-carried) c.floor_of.ensures c.shares_at-here.ensures
