-- `column::in_place::paste` meets its contract: pasting what is left gives what pasting all from the start gives. Assumes nothing.
use Rattle.std.proofs.Common.{rules, ◌≡◌, refl, sym, ◌∙◌, ap, List, ℕ, ◌+◌, ◌-◌, ◌≤◌, arith, Option, Some, None, Result, Ok, Err}
use Rattle.refusal.specs.declared.Refusal.{Refusal}
use Rattle.refusal.specs.Refusal.{number_of}
use Rattle.refusal.specs.Said.{number_told}
use Rattle.refusal.proofs.Said.{number_positive}
use Rattle.column.specs.declared.Member.{Member}
use Rattle.column.specs.Accepted.{last_floor}
use Rattle.column.specs.Column.{Outcome, lines_of, column_from, Reached, count_after, entered_outcome}
use Rattle.column.specs.Pasted.{Pasting, number_or_0, paste_outcome}
use Rattle.column.proofs.InPlace.{reached_held}
use Rattle.column.proofs.Pasting.{pasted_next, pasted_end, pasted_none}
use Rattle.column.proofs.Reach.{entered_count, entered_last}
use Rattle.column.proofs.in_place.paste.Goals as goal

-- what is answered, told with the column of the kept lines beside those that were held
answered : {count filled : ℕ} → count ≤ filled → (m : Member) (places : List ℕ) (r : Option Refusal) {p : Pasting}
    → record { number = number_or_0 r; kept = filled - count; column = column_from m filled places } ≡ p
    → Reached (column_from m filled places)
    → let c = column_from m (count + (filled - count)) places in
    (paste_outcome (record { kept = filled - count; refusal = r }) c ≡ p) × Reached c
unfolding paste_outcome
answered {count} {filled} h m places r told reached =
    let beside : count + (filled - count) ≡ filled = omega (arith, h) in
    rw beside (told, reached)

-- what entering a line gave, where it was kept and where it was refused
module _ (m : Member) (n : ℕ) {r : Result ℕ Refusal} {places : List ℕ} {o : Outcome} (entered : entered_outcome m n r places ≡ o) (reached : Reached (column_from m (count_after n r) places)) where
  kept : {next : ℕ} → r ≡ Ok next → (record { number = 0; column = column_from m next places } ≡ o) × Reached (column_from m next places)
  unfolding entered_outcome number_told count_after
  kept is = (rw is at entered, rw is at reached)

  stopped : {refusal : Refusal} → r ≡ Err refusal → (record { number = number_of refusal; column = column_from m n places } ≡ o) × Reached (column_from m n places)
  unfolding entered_outcome number_told count_after
  stopped is = (rw is at entered, rw is at reached)

pub last_floor_of-last-requires : goal.last_floor_of-last-requires
last_floor_of-last-requires c = reached_held c.requires

pub loop-line-init : goal.loop-line-init
unfolding lines_of
loop-line-init c =
    let none : c.args.count - c.args.count ≡ 0 = omega arith in
    record {
      filled = omega arith;
      reached = c.requires;
      last = c.last_floor_of-last.ensures;
      pasted = rw (none, c.into_iter-line-iterator.ensures.into_iter_gives) refl;
    }

pub enter_below-entered-requires : goal.enter_below-entered-requires
enter_below-entered-requires c = record { reached = c.loop-line.invariant.reached; last = c.loop-line.invariant.last }

pub loop-line-preserved : goal.loop-line-preserved
loop-line-preserved c =
    let l = c.loop-line.invariant in
    let entered = c.enter_below-entered.ensures in
    let is : c.enter_below-entered.result ≡ Ok c.in-Ok.next = search rules in
    let now = kept c.args.member c.loop-line.filled entered.entered entered.reached is in
    let j = now.0 in
    let zero = sym (ap (λ (o : Outcome). o.number) j) in
    let one : c.in-Ok.next ≡ c.loop-line.filled + 1 = ap (λ (o : Outcome). o.column.count) j ∙ entered_count _ l.reached zero in
    let more : c.in-Ok.next - c.args.count ≡ c.loop-line.filled - c.args.count + 1 = omega (arith, one, l.filled) in
    record {
      filled = omega (arith, one, l.filled);
      reached = now.1;
      last = sym (ap (λ (o : Outcome). last_floor (lines_of o.column)) j ∙ entered_last _ _ zero);
      pasted = rw more (pasted_next _ _ _ _ _ j refl ∙ (rw c.in-Some.ensures.steps at l.pasted));
    }

pub returns-in-Err : goal.returns-in-Err
unfolding number_or_0
returns-in-Err c =
    let l = c.loop-line.invariant in
    let entered = c.enter_below-entered.ensures in
    let is : c.enter_below-entered.result ≡ Err c.in-Err.refusal = search rules in
    let now = stopped c.args.member c.loop-line.filled entered.entered entered.reached is in
    let told = pasted_end _ _ _ _ _ now.0 (number_positive c.in-Err.refusal) ∙ (rw c.in-Some.ensures.steps at l.pasted) in
    let a = answered l.filled c.args.member c.enter_below-entered.new.held (Some c.in-Err.refusal) told now.1 in
    record { pasted = a.0; reached = a.1 }

pub returns : goal.returns
unfolding number_or_0
returns c =
    let l = c.loop-line.invariant in
    let told = sym (pasted_none _ (column_from c.args.member c.loop-line.filled c.loop-line.held)) ∙ (rw c.in-None.ensures.steps.0 at l.pasted) in
    let a = answered l.filled c.args.member c.loop-line.held None told l.reached in
    record { pasted = a.0; reached = a.1 }
