-- The lines at a column's places: within their limits, in order, and sums over them.
-- Assumes nothing.
use Rattle.std.proofs.Common.{◌≡◌, sym, ◌∙◌, ap, subst, List, [], ◌∷◌, ◌++◌, ℕ, suc, ◌+◌, ◌*◌, ◌-◌, ◌≤◌, ◌<◌, add-zero, add-one, mul-add, arith, length}
use Rattle.std.proofs.Math.Path.{subst⁻¹}
use Rattle.lists.specs.Lists.{All, total}
use Rattle.lists.proofs.Lists.{all_first, all_front, all_back, all_more, total_append}
use Rattle.column.specs.declared.Line.{Line}
use Rattle.column.specs.inner.Sound.{InLimits, Held, line_at, lines_before, lines_between}
use Rattle.column.proofs.Lines.{between_none, between_next, between_split, between_more}
use Rattle.figure.specs.inner.Totals.{DownTo, NotAbove, Ordered}
use Rattle.figure.proofs.Order.{ordered_front, ordered_before, ordered_after}

module _ {places : List ℕ} {count : ℕ} (ok : Held places count) where
  pub room : count ≤ length places
  room = omega (arith, ok.few, ok.size)

  -- the first lines are a column's places too
  pub held_before : (end : ℕ) → end ≤ count → Held places end
  held_before end h =
      record {
        few = omega (arith, ok.few);
        size = ok.size;
        lines = all_front (lines_before places end) _ (subst (All InLimits) (between_split places 0 end count (omega arith) h room) ok.lines);
      }

  -- the line at a place stands between those before it and those after it
  pub line_between : (i : ℕ) → i < count → lines_before places count ≡ lines_before places i ++ (line_at places i ∷ lines_between places (suc i) count)
  line_between i h =
      between_split places 0 i count (omega arith) (omega arith) room
      ∙ ap (λ (ls : List Line). lines_before places i ++ ls) (between_next places i count h room)

  pub held_at : (i : ℕ) → i < count → InLimits (line_at places i)
  held_at i h = all_first (all_back (lines_before places i) (subst (All InLimits) (line_between i h) ok.lines))

  -- where they are in order, those before it are not below it, and those after it not above
  module _ (o : Ordered (lines_before places count)) where
    pub order_before : (end : ℕ) → end ≤ count → Ordered (lines_before places end)
    order_before end h = ordered_front (lines_before places end) (lines_between places end count) (subst Ordered (between_split places 0 end count (omega arith) h room) o)

    pub above_at : (i : ℕ) → i < count → All (DownTo (line_at places i).floor) (lines_before places i)
    above_at i h = ordered_before (line_at places i) (lines_between places (suc i) count) (lines_before places i) (subst Ordered (line_between i h) o)

    pub after_at : (i : ℕ) → i < count → All (NotAbove (line_at places i).floor) (lines_between places (suc i) count)
    after_at i h = ordered_after (line_at places i) (lines_between places (suc i) count) (lines_before places i) (subst Ordered (line_between i h) o)

    -- so of the lines to it
    pub above_to : (i : ℕ) → i < count → All (DownTo (line_at places i).floor) (lines_before places (suc i))
    above_to i h =
        subst⁻¹ (All (DownTo (line_at places i).floor)) (between_more places 0 i (omega arith) (omega (arith, room)))
        (all_more {P = DownTo (line_at places i).floor} (above_at i h) (omega arith))

-- ---- sums

-- the sum of a number of each line from a place to before another, each at most so much
pub record SumOf (number : Line → ℕ) (each : ℕ) (places : List ℕ) (first end sum : ℕ) : Type 0 where
  pub is : sum ≡ total number (lines_between places first end)
  pub most : sum ≤ each * (end - first)

module _ {g : Line → ℕ} {each : ℕ} {places : List ℕ} where
  -- nothing is summed at the first place
  pub sum_none : (i : ℕ) → SumOf g each places i i 0
  unfolding total
  sum_none i = record { is = ap (total g) (sym (between_none places i)); most = omega arith }

  -- two sums one after another
  pub sum_join : {first i end sum more : ℕ} → first ≤ i → i ≤ end → end ≤ length places
      → SumOf g each places first i sum → SumOf g each places i end more → SumOf g each places first end (sum + more)
  sum_join {first} {i} {end} {sum} {more} h k r s t =
      let both = ap (total g) (between_split places first i end h k r) ∙ total_append g (lines_between places first i) (lines_between places i end) in
      let rooms : end - first ≡ (i - first) + (end - i) = omega arith in
      record {
        is = rw (s.is, t.is) (sym both);
        most = rw (rooms, mul-add each (i - first) (end - i)) (omega (arith, s.most, t.most));
      }

  -- one line more
  pub sum_next : {first i sum more : ℕ} → first ≤ i → i < length places
      → SumOf g each places first i sum → more ≡ g (line_at places i) → more ≤ each → SumOf g each places first (i + 1) (sum + more)
  unfolding total
  sum_next {first} {i} {sum} {more} h k s e most =
      let one : lines_between places i (suc i) ≡ line_at places i ∷ [] =
      between_next places i (suc i) (omega arith) k ∙ ap (λ (ls : List Line). line_at places i ∷ ls) (between_none places (suc i)) in
      let size : suc i - i ≡ 1 = omega arith in
      rw (add-one i)
      (sum_join h (omega arith) k s (record { is = rw one (e ∙ sym (add-zero (g (line_at places i)))); most = rw size (omega arith) }))
