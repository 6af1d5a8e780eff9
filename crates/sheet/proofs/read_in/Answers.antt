-- `sheet::read_in` meets its contract: reading on from here, with the sheet so far, gives what reading the whole text gives. Assumes nothing.
use Rattle.std.proofs.Common.{◌≡◌, sym, ◌∙◌, ap, arith, lt-ltb}
use Rattle.std.proofs.Math.Path.{subst⁻¹}
use Rattle.refusal.specs.Refusal.{number_of}
use Rattle.refusal.specs.Said.{number_told}
use Rattle.refusal.proofs.Said.{number_positive, not_zero}
use Rattle.sheet.specs.Sheet.{Taken, line_taken, if_read, read_sheet}
use Rattle.sheet.specs.inner.Stopped.{reading_of}
use Rattle.sheet.proofs.Kept.{Kept, unread_kept, line_kept, line_refused}
use Rattle.sheet.proofs.Newlines.{Next, next_newline, no_newline}
use Rattle.sheet.proofs.ReadOn.{read_end, read_short, read_line, read_start}
use Rattle.sheet.proofs.read_in.Goals as goal
use Rattle.sheet.proofs.read_in.Goals.{In-Some}

-- the newline that was found is the next one
found : (c : In-Some) → Next c.args.text.now c.loop-end.at c.in-Some.end c.next.new.self
found c =
    let i = c.loop-end.invariant in
    next_newline c.args.text.now c.loop-end.at c.in-Some.end c.next.new.self i.inside (sym i.left ∙ c.in-Some.ensures.steps)

pub returns-then-text-gt-LONGEST : goal.returns-then-text-gt-LONGEST
unfolding read_sheet number_of
returns-then-text-gt-LONGEST c = c.refused.ensures c.args.draft.now ∙ rw (c.requires, lt-ltb _ _ c.if-text-gt-LONGEST.true)

pub loop-end-init : goal.loop-end-init
loop-end-init c =
    record {
      on = rw c.requires (read_start c.args.text.now (omega arith));
      kept = subst⁻¹ Kept c.requires unread_kept;
      left = c.into_iter-end-iterator.ensures.into_iter_gives ∙ c.memchr_iter-end-items.ensures.value;
      inside = omega arith;
      lines = omega arith;
      short = omega arith;
    }

pub slice_bounds-take_line-count : goal.slice_bounds-take_line-count
slice_bounds-take_line-count c = (found (goal.at.slice_bounds-take_line-count c).In-Some).low

pub slice_bounds-take_line-start : goal.slice_bounds-take_line-start
slice_bounds-take_line-start c = (found (goal.at.slice_bounds-take_line-start c).In-Some).low

pub slice_bounds-take_line-end : goal.slice_bounds-take_line-end
slice_bounds-take_line-end c = omega (arith, (found (goal.at.slice_bounds-take_line-end c).In-Some).high)

pub returns-in-Err : goal.returns-in-Err
unfolding if_read number_told
returns-in-Err c =
    let l = c.loop-end in
    let text = c.args.text.now in
    let end = c.in-Some.end in
    let e = c.in-Err.ensures in
    let n = found (goal.at.returns-in-Err c).In-Some in
    let some = number_positive c.in-Err.refusal in
    let on = read_line text l.line l.at l.draft end l.invariant.inside n.ends n.high in
    let not : (line_taken l.draft _).number ≡ 0 → ⊥ = λ z. omega (arith, some, ap (λ (k : Taken). k.number) e ∙ z) in
    let same : c.take_line.new.self ≡ l.draft = ap (λ (k : Taken). k.draft) e ∙ line_refused l.draft _ not in
    c.refused-in-Err.ensures c.take_line.new.self ∙ rw same (sym (l.invariant.on ∙ (on ∙ rw (← e, not_zero some))))

pub overflow_add-at : goal.overflow_add-at
overflow_add-at c = omega (arith, (found (goal.at.overflow_add-at c).In-Some).high)

pub loop-end-preserved : goal.loop-end-preserved
unfolding if_read number_told
loop-end-preserved c =
    let l = c.loop-end in
    let text = c.args.text.now in
    let end = c.in-Some.end in
    let e = c.in_default.ensures in
    let n = found (goal.at.loop-end-preserved c).In-Some in
    let on = read_line text l.line l.at l.draft end l.invariant.inside n.ends n.high in
    record {
      on = l.invariant.on ∙ (on ∙ rw (← e));
      kept = subst⁻¹ (λ (k : Taken). Kept k.draft) e (line_kept l.draft _ l.invariant.kept);
      left = n.left;
      inside = omega (arith, n.high);
      lines = omega (arith, n.low);
      short = omega arith;
    }

pub returns-then-at-text : goal.returns-then-at-text
unfolding number_of
returns-then-at-text c =
    let l = c.loop-end in
    let text = c.args.text.now in
    let none = no_newline text l.at l.invariant.inside (sym l.invariant.left ∙ c.in-None.ensures.steps.0) in
    c.refused-then-at-text.ensures l.draft ∙ sym (l.invariant.on ∙ read_short text l.line l.at l.draft c.if-at-text.true none)

pub returns-then-is_complete : goal.returns-then-is_complete
unfolding reading_of
returns-then-is_complete c =
    let l = c.loop-end in
    sym (l.invariant.on ∙ (read_end c.args.text.now l.line l.at l.draft c.if-at-text.false ∙ rw (sym c.is_complete.ensures ∙ c.if-is_complete.true)))

pub returns : goal.returns
unfolding number_of
returns c =
    let l = c.loop-end in
    c.refused-2.ensures l.draft
    ∙ sym (l.invariant.on ∙ (read_end c.args.text.now l.line l.at l.draft c.if-at-text.false ∙ rw (sym c.is_complete.ensures ∙ c.if-is_complete.false)))
