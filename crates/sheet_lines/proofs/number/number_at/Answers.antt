-- `sheet_lines::number::number_at` meets its contract: reading on from here gives what reading from the start gives. Assumes nothing.
use Rattle.std.proofs.Common.{refl, sym, ◌∙◌, true, false, ◌<◌, ◌^◌, arith, lit<, length}
use Rattle.std.proofs.Math.Path.{subst⁻¹}
use Rattle.sheet_lines.specs.Number.{number_at}
use Rattle.sheet_lines.specs.inner.InLine.{Small}
use Rattle.sheet_lines.proofs.AtPlace.{number_end, number_other, number_digit, grow_only, grown, below, ended_small}
use Rattle.sheet_lines.proofs.number.number_at.Goals as goal
use Rattle.sheet_lines.proofs.number.number_at.Goals.{Else-not-may_grow}

-- where a digit may follow, fewer than 13 are read, and the value so far is below 10 ^ 12
small : (c : Else-not-may_grow) → (c.loop-byte.count < 13) × (c.loop-byte.value < 10 ^ 12)
small c =
    let l = c.loop-byte in
    let few : l.count < 13 = (grow_only l.count _ (sym c.may_grow.ensures ∙ c.if-not-may_grow.false)).0 in
    (few, below {count = l.count} {most = 12} l.invariant.value (omega arith))

pub loop-byte-init : goal.loop-byte-init
unfolding number_at
loop-byte-init c = record { same = refl; place = refl; value = lit< tt; count = omega arith }

pub returns-then-not-is_ascii_digit-clause-value : goal.returns-then-not-is_ascii_digit-clause-value
returns-then-not-is_ascii_digit-clause-value c =
    let l = c.loop-byte in
    let t : l.count < length c.args.text.now = omega arith in
    c.number_ended.ensures ∙ sym (l.invariant.same ∙ number_other _ l.count l.value l.count t (rw l.invariant.place at c.if-not-is_ascii_digit.ensures.cases))

pub returns-then-not-is_ascii_digit-clause-small : goal.returns-then-not-is_ascii_digit-clause-small
returns-then-not-is_ascii_digit-clause-small c =
    let l = c.loop-byte in
    subst⁻¹ (Small (length c.args.text.now)) c.number_ended.ensures (ended_small l.count l.value l.count _ l.invariant.value l.invariant.count (omega arith))

pub returns-then-not-may_grow-clause-value : goal.returns-then-not-may_grow-clause-value
returns-then-not-may_grow-clause-value c =
    let l = c.loop-byte in
    let t : l.count < length c.args.text.now = omega arith in
    let d = rw l.invariant.place at c.if-not-is_ascii_digit.ensures.cases in
    sym (l.invariant.same ∙ number_digit _ l.count l.value l.count t d.0 d.1 false (sym c.may_grow.ensures ∙ c.if-not-may_grow.true))

pub returns-then-not-may_grow-clause-small : goal.returns-then-not-may_grow-clause-small
unfolding Small
returns-then-not-may_grow-clause-small c = tt

pub overflow_mul-value : goal.overflow_mul-value
overflow_mul-value c = omega (arith, (small (goal.at.overflow_mul-value c).Else-not-may_grow).1)

pub overflow_add-value : goal.overflow_add-value
overflow_add-value c = omega (arith, (small (goal.at.overflow_add-value c).Else-not-may_grow).1, c.if-not-is_ascii_digit.ensures.cases)

pub loop-byte-preserved : goal.loop-byte-preserved
loop-byte-preserved c =
    let l = c.loop-byte in
    let t : l.count < length c.args.text.now = omega arith in
    let d = rw l.invariant.place at c.if-not-is_ascii_digit.ensures.cases in
    let few = small (goal.at.loop-byte-preserved c).Else-not-may_grow in
    record {
      same = l.invariant.same ∙ number_digit _ l.count l.value l.count t d.0 d.1 true (sym c.may_grow.ensures ∙ c.if-not-may_grow.false) ∙ rw l.invariant.place;
      place = omega arith;
      value = grown l.count l.value _ l.invariant.value (omega (arith, c.if-not-is_ascii_digit.ensures.cases));
      count = omega (arith, few.0);
    }

pub returns-clause-value : goal.returns-clause-value
returns-clause-value c =
    let l = c.loop-byte in
    c.number_ended-2.ensures ∙ sym (l.invariant.same ∙ number_end _ _ _ _ (omega arith))

pub returns-clause-small : goal.returns-clause-small
returns-clause-small c =
    let l = c.loop-byte in
    subst⁻¹ (Small (length c.args.text.now)) c.number_ended-2.ensures (ended_small l.count l.value l.count _ l.invariant.value l.invariant.count (omega arith))
