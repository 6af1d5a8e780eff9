-- The lines of a column: as many as it counts, those between two places, and the last of them.
-- Assumes nothing.
use Rattle.std.proofs.Common.{◌≡◌, refl, sym, ◌∙◌, ap, List, [], ◌∷◌, ◌++◌, map, ℕ, suc, ◌-◌, ◌≤◌, ◌<◌, arith, length, take, drop, take-append-drop, length-take-le, take-take}
use Rattle.std.proofs.Math.Seq.{slice, slice_empty, slice-cons}
use Rattle.std.proofs.lemmas.List.{map-append, length-map, drop-append-le}
use Rattle.column.specs.declared.Line.{Line}
use Rattle.column.specs.declared.Column.{Column}
use Rattle.column.specs.Line.{unpacked}
use Rattle.column.specs.Accepted.{last_floor}
use Rattle.column.specs.Column.{lines_of}
use Rattle.column.specs.inner.Sound.{line_at, lines_before, lines_between}

-- a column holds as many lines as it counts
pub lines_length : (c : Column) → c.count ≤ length c.held → length (lines_of c) ≡ c.count
unfolding lines_of
lines_length c h = length-map (take c.count c.held) unpacked ∙ length-take-le c.count c.held h

module _ (places : List ℕ) where
  -- there are none from a place to before it
  pub between_none : (i : ℕ) → lines_between places i i ≡ []
  between_none i = ap (map unpacked) (slice_empty i places)

  -- the line at a place stands before those from the next place on
  pub between_next : (i end : ℕ) → i < end → end ≤ length places → lines_between places i end ≡ line_at places i ∷ lines_between places (suc i) end
  between_next i end h k = ap (map unpacked) (slice-cons i end places 0 h k)

  -- those to before a place, and those from there on
  pub between_split : (first i end : ℕ) → first ≤ i → i ≤ end → end ≤ length places
      → lines_between places first end ≡ lines_between places first i ++ lines_between places i end
  between_split first i end h k r =
      let size : length (take i places) ≡ i = length-take-le i places (omega arith) in
      ap (λ (ns : List ℕ). map unpacked (drop first ns)) (sym (take-append-drop i (take end places)) ∙ ap (λ (ns : List ℕ). ns ++ slice i end places) (take-take i end places k))
      ∙ (ap (map unpacked) (drop-append-le first (take i places) (slice i end places) (omega arith))
      ∙ map-append unpacked (drop first (take i places)) (slice i end places))

  -- one line more
  pub between_more : (first i : ℕ) → first ≤ i → i < length places
      → lines_between places first (suc i) ≡ lines_between places first i ++ (line_at places i ∷ [])
  between_more first i h k =
      between_split first i (suc i) h (omega arith) k
      ∙ ap (λ (ls : List Line). lines_between places first i ++ ls)
      (between_next i (suc i) (omega arith) k ∙ ap (λ (ls : List Line). line_at places i ∷ ls) (between_none (suc i)))

-- the last line is the last
pub last_more : (ls : List Line) (l : Line) → last_floor (ls ++ (l ∷ [])) ≡ l.floor
unfolding last_floor
last_more [] l = refl
last_more (k ∷ []) l = refl
last_more (k ∷ (j ∷ ls)) l = last_more (j ∷ ls) l

pub last_none : (places : List ℕ) (n : ℕ) → n ≡ 0 → last_floor (lines_before places n) ≡ 0
unfolding last_floor
last_none places n e = rw e

pub last_some : (places : List ℕ) (n : ℕ) → 0 < n → n ≤ length places → last_floor (lines_before places n) ≡ (line_at places (n - 1)).floor
last_some places n h k =
    let e : suc (n - 1) ≡ n = omega arith in
    ap (λ (j : ℕ). last_floor (lines_before places j)) (sym e)
    ∙ (ap last_floor (between_more places 0 (n - 1) (omega arith) (omega arith)) ∙ last_more (lines_before places (n - 1)) (line_at places (n - 1)))
