-- `figure::descent::work_out_all` meets its contract: the table has what holds at every floor down to the last line carried. Assumes nothing.
use Rattle.std.proofs.Common.{◌≡◌, sym, ◌∙◌, ap, arith, rules, ℕ, List, [], ◌∷◌, ◌++◌, length}
use Rattle.std.proofs.lemmas.Fn.{always_returns_same}
use Rattle.column.specs.Seen.{column_seen}
use Rattle.column.proofs.Reach.{sound}
use Rattle.column.proofs.Seen.{seen_reached}
use Rattle.figure.specs.inner.Descent.{left, RunAt}
use Rattle.figure.proofs.HeldLines.{run_held}
use Rattle.figure.proofs.Workings.{passed_none, passed_length}
use Rattle.figure.proofs.Walk.{same_floor, run_at, rest_after, all_passed, all_summed, lower_floor, next_put}
use Rattle.figure.proofs.descent.work_out_all.Goals as goal
use Rattle.figure.proofs.descent.work_out_all.Goals.{In-Some}

pub top-here-requires : goal.top-here-requires
top-here-requires c = (sound (seen_reached c.args.column)).code

pub loop-new-init : goal.loop-new-init
loop-new-init c =
    let top = c.top-here.ensures in
    (top.0, rw (top.1, c.into_iter-new-iterator.ensures.into_iter_gives, c.chunk_by-new-items.ensures.rest), rw top.2 (sym (passed_none _)))

-- where nothing is left to go through, no line is left
none_left : {left : List ℕ} (rest : List ℕ) → left ≡ rest → length rest ≡ 0 → left ≡ []
none_left [] e z = e
none_left (n ∷ rest) e z = absurd (omega (arith, z))

-- the lines of the next floor, and those after them
split : (c : In-Some) → left c.of-lines.result.numbers.now c.loop-new.here.carried ≡ c.in-Some.new.now ++ c.next.new.self.rest.now
split c = sym c.loop-new.invariant.1 ∙ c.in-Some.ensures.steps.0

new : (c : In-Some) → RunAt (left c.of-lines.result.numbers.now c.loop-new.here.carried) c.in-Some.new.now
new c =
    let step = c.in-Some.ensures.steps in
    run_at c.of-lines.result _ c.loop-new.new-iterator.rest.now c.in-Some.new.now c.next.new.self.rest.now c.loop-new.invariant.1 step.0 step.1
    (step.2 same_floor (always_returns_same _ _ _ (λ a r f' k. search rules))).1

pub invariant_of-next : goal.invariant_of-next
invariant_of-next c =
    let h = run_held c.of-lines.result _ _ _ (split (goal.at.invariant_of-next c).In-Some) in
    record { lined = ∣ h.0 ∣₁; ordered = ∣ h.1 ∣₁ }

pub next-here-requires : goal.next-here-requires
next-here-requires c = (c.loop-new.invariant.0, new (goal.at.next-here-requires c).In-Some)

pub put_in-requires : goal.put_in-requires
put_in-requires c =
    let l = c.loop-new in
    let n = c.next-here.ensures in
    (ap length l.invariant.2 ∙ passed_length _ l.here.floor l.invariant.0.floor_most, omega (arith, lower_floor (column_seen c.args.column) c.of-lines.ensures l.invariant.0 (new (goal.at.put_in-requires c).In-Some) n), n.descended.floor_most)

pub loop-new-preserved : goal.loop-new-preserved
loop-new-preserved c =
    let l = c.loop-new in
    let n = c.next-here.ensures in
    let i = (goal.at.loop-new-preserved c).In-Some in
    (n.descended, rw n.carried (sym (rest_after c.of-lines.result.numbers.now l.here.carried.numbers.now c.in-Some.new.now _ (split i))), c.put_in.ensures ∙ next_put (column_seen c.args.column) c.of-lines.ensures l.invariant.0 (new i) n l.invariant.2)

pub returns-clause-workings : goal.returns-clause-workings
returns-clause-workings c =
    let l = c.loop-new in
    l.invariant.2 ∙ all_passed (column_seen c.args.column) c.of-lines.ensures l.invariant.0 (none_left l.new-iterator.rest.now (sym l.invariant.1) c.in-None.ensures.steps.0)

pub returns-clause-lowest : goal.returns-clause-lowest
returns-clause-lowest c =
    let l = c.loop-new in
    all_summed (column_seen c.args.column) c.of-lines.ensures l.invariant.0 (seen_reached c.args.column) (none_left l.new-iterator.rest.now (sym l.invariant.1) c.in-None.ensures.steps.0)
