-- `figure::lines::Lines::carried_at` meets its contract: the lines down to the floor stand first, and the last of them tells whether
-- one has it. Assumes nothing.
use Rattle.std.proofs.Common.{◌≡◌, sym, ◌∙◌, ap, arith, rules, ℕ, ◌+◌, ◌-◌, ◌≤◌, ◌<◌, true, false, leb, List, map, length, take, drop, get_or, length-take, length-drop, leb-true, leb-false}
use Rattle.std.specs.List.Sorted.{IsPartitionPoint}
use Rattle.std.proofs.lemmas.List.{get_or-take, get_or-drop, get_or_default}
use Rattle.std.proofs.lemmas.List.Sorted.{IsPartitionPoint-from_clause}
use Rattle.lists.specs.Lists.{All}
use Rattle.lists.proofs.Lists.{all_so, all_append}
use Rattle.column.specs.Line.{unpacked}
use Rattle.figure.specs.Carried.{carried, has_floor}
use Rattle.figure.specs.inner.Totals.{Ordered, DownTo, Below}
use Rattle.figure.specs.inner.Front.{Front}
use Rattle.figure.proofs.Carried.{Other, has_none, has_at, has_carried, carried_front}
use Rattle.figure.proofs.HeldLines.{all_of, each_of, split_at, in_order, parted, ordered_take, lines_ordered}
use Rattle.figure.proofs.lines.Lines.carried_at.Goals as goal
use Rattle.figure.proofs.lines.Lines.carried_at.Goals.{After-partition_point-end}

abbrev Point : ℕ → List ℕ → ℕ → Type 0
Point f ns end = IsPartitionPoint (λ n. leb (unpacked n).floor f ≡ true) (λ n. leb (unpacked n).floor f ≡ false) ns end

point : (c : After-partition_point-end) → Point c.args.floor c.args.self.numbers.now c.partition_point-end.result
point c =
    IsPartitionPoint-from_clause (λ n. leb (unpacked n).floor c.args.floor) c.args.self.numbers.now _ c.partition_point-end.ensures.partitioned
    (parted c.args.floor c.args.self.numbers.now (lines_ordered c.args.self)) (λ x b f' k. search rules)

module _ (f : ℕ) (ns : List ℕ) (end : ℕ) (p : Point f ns end) where
  abbrev front : List ℕ
  front = take end ns

  -- the lines before the point are those down to the floor, and the others are below it
  down : All (DownTo f) (map unpacked front)
  down =
      all_of {P = DownTo f} front
      (λ k d q. let r : k < end = omega (arith, length-take end ns) in
      rw (get_or-take end ns k d r) (leb-true _ f (p.0 k d (omega arith) r)))

  below : All (Below f) (map unpacked (drop end ns))
  below =
      all_of {P = Below f} (drop end ns)
      (λ k d q. rw (get_or-drop end ns k d) (omega (arith, leb-false _ f (p.1 (end + k) d (omega arith) (omega (arith, length-drop end ns, q))))))

  -- so none has it where those before have not
  none_has : All (Other f) (map unpacked front) → has_floor f (map unpacked ns) ≡ false
  none_has other =
      rw (split_at end ns) (has_none f (all_append other (all_so {P = Below f} {Q = Other f} (λ l q w. omega arith) below)))

  carries : carried f (map unpacked ns) ≡ map unpacked front
  carries = rw (split_at end ns) (carried_front f down below)

  -- the last of them tells whether one has it
  module _ (last : ℕ) (some : 0 < length front) (is : last ≡ get_or front (length front - 1) last) where
    missing : Ordered (map unpacked ns) → ((unpacked last).floor ≡ f → ⊥) → has_floor f (map unpacked ns) ≡ false
    missing o other =
        none_has
        (all_of {P = Other f} front
        (λ k d q e.
        let same : get_or front (length front - 1) d ≡ last = get_or_default front (length front - 1) d last (omega arith) ∙ sym is in
        let not_below : (unpacked (get_or front k d)).floor ≤ (unpacked last).floor = rw same at (in_order front (ordered_take end ns o) k (length front - 1) d (omega arith) (omega arith)) in
        let not_above : (unpacked last).floor ≤ f = rw is (each_of {P = DownTo f} front down (length front - 1) last (omega arith)) in
        other (omega (arith, e, not_below, not_above))))

    found : (unpacked last).floor ≡ f → Front f ns front
    found e =
        record {
          has = rw (← has_carried f (map unpacked ns), carries) (has_at f front (length front - 1) last (omega arith) (rw (← is) e));
          carries = carries;
        }

pub returns-in_err-last : goal.returns-in_err-last
returns-in_err-last c =
    let ns = c.args.self.numbers.now in
    let end = c.partition_point-end.result in
    rw c.from_residual.ensures
    (none_has c.args.floor ns end (point (goal.at.returns-in_err-last c).After-partition_point-end)
    (all_of {P = Other c.args.floor} (take end ns) (λ k d q. absurd (omega (arith, ap length c.first-carried.ensures, c.in_err-last.ensures.item.3)))))

pub returns-then-floor_of-floor : goal.returns-then-floor_of-floor
returns-then-floor_of-floor c =
    let last = rw c.first-carried.ensures at c.in_ok-last.ensures.item in
    missing c.args.floor c.args.self.numbers.now _ (point (goal.at.returns-then-floor_of-floor c).After-partition_point-end) c.in_ok-last.last.now last.3.0 last.1
    (lines_ordered c.args.self) (λ e. c.if-floor_of-floor.true (c.floor_of.ensures ∙ e))

pub returns : goal.returns
returns c =
    let last = rw c.first-carried.ensures at c.in_ok-last.ensures.item in
    rw c.first-carried.ensures
    (found c.args.floor c.args.self.numbers.now _ (point (goal.at.returns c).After-partition_point-end) c.in_ok-last.last.now last.3.0 last.1
    (sym c.floor_of.ensures ∙ c.if-floor_of-floor.false))
