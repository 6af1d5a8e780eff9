-- `error_bound::enter_all` meets its contract: entering what is left gives what entering all from the start gives, and what is
-- told of the refused ones goes on alike. Assumes nothing.
use Rattle.std.proofs.Common.{refl, ◌∙◌, ap, arith, ◌+◌, length}
use Rattle.refusal.specs.Said.{number_told}
use Rattle.column.specs.Column.{after}
use Rattle.error_bound.specs.Entries.{refusals_told}
use Rattle.error_bound.specs.inner.Counting.{numbers_on, noted_all}
use Rattle.error_bound.proofs.Counting.{noted_none, noted_all_lem, next_entry}
use Rattle.error_bound.proofs.enter_all.Goals as goal

pub overflow_add-place : goal.overflow_add-place
overflow_add-place c = omega (arith, c.loop-line.invariant.places, ap length c.in-Some.ensures.steps)

pub loop-line-preserved-in-Err : goal.loop-line-preserved-in-Err
unfolding number_told
loop-line-preserved-in-Err c =
    let l = c.loop-line.invariant in
    let left = c.in-Some.ensures.steps in
    let next = next_entry _ _ c.in-Some.line _ _ (c.loop-line.place + 1) _ c.in-Err.ensures.entered c.note.ensures.0 in
    record {
      reached = c.enter.ensures.reached;
      column = next.0 ∙ (rw left at l.column);
      places = omega (arith, l.places, ap length left);
      few = c.note.ensures.1;
      refusals = next.1 ∙ (rw left at l.refusals);
    }

pub loop-line-preserved : goal.loop-line-preserved
unfolding number_told
loop-line-preserved c =
    let l = c.loop-line.invariant in
    let left = c.in-Some.ensures.steps in
    let next = next_entry _ _ c.in-Some.line _ _ (c.loop-line.place + 1) _ c.in_default.ensures.entered (noted_none (refusals_told c.loop-line.refusals) 0 (c.loop-line.place + 1) refl) in
    record {
      reached = c.enter.ensures.reached;
      column = next.0 ∙ (rw left at l.column);
      places = omega (arith, l.places, ap length left);
      few = omega (arith, l.few);
      refusals = next.1 ∙ (rw left at l.refusals);
    }

pub returns-clause-column : goal.returns-clause-column
unfolding after
returns-clause-column c = (rw c.in-None.ensures.steps.0 at c.loop-line.invariant.column, c.loop-line.invariant.reached)

pub returns-clause-refusals : goal.returns-clause-refusals
unfolding numbers_on noted_all refusals_told
returns-clause-refusals c = (rw c.in-None.ensures.steps.0 at c.loop-line.invariant.refusals) ∙ noted_all_lem _
