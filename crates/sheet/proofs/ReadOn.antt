-- Reading a text from a place on: at its end, at a line that lacks its newline, and at a line that has one.
-- Assumes nothing.
use Rattle.std.proofs.Common.{◌≡◌, ap, Bool, true, false, cond, List, [], ◌∷◌, ◌++◌, ℕ, ◌+◌, ◌-◌, ◌<◌, ◌≤◌, arith, eqb, ltb, length, drop, take, drop_of_length-le, length-drop, length-append, length-take-le, le-ltb}
use Rattle.std.specs.Prelude.{None}
use Rattle.std.proofs.Math.Path.{subst⁻¹}
use Rattle.column.specs.Pasted.{number_or_0}
use Rattle.sheet.specs.declared.ReadSheet.{ReadSheet}
use Rattle.text.specs.Lines.{ended, Lines, line, rest, split, end_from}
use Rattle.sheet.specs.declared.steps.Draft.{Draft}
use Rattle.sheet.specs.Sheet.{Reading, Taken, unread, is_complete, line_taken, reading, reading_told, if_read, read_from, read_sheet}
use Rattle.sheet.specs.Keeps.{Keeps}
use Rattle.text.proofs.Lines.{bytes, bytes_split}
use Rattle.text.proofs.LineEnd.{end_most, line_short, line_whole}
use Rattle.sheet.proofs.Kept.{read_keeps}

module _ (text : List ℕ) (k at : ℕ) (d : Draft) where
  -- the text has ended
  pub read_end : length text ≤ at
      → read_from k at d (split (drop at text)) ≡ cond (is_complete d.due) (reading 0 k at at d) (reading 10 (k + 1) at at d)
  unfolding read_from split
  read_end h = rw (drop_of_length-le text h)

  -- the line lacks its newline
  pub read_short : at < length text → end_from text at ≡ length text
      → read_from k at d (split (drop at text)) ≡ reading 10 (k + 1) at (length text) d
  unfolding read_from
  read_short h e = rw (line_short text at (omega arith) e) (go (drop at text) (omega (arith, length-drop at text)) (omega (arith, length-drop at text)))
    where
      go : (bs : List ℕ) → 0 < length bs → at + length bs ≡ length text → read_from k at d (rest bs) ≡ reading 10 (k + 1) at (length text) d
      go [] z m = absurd (omega arith)
      go (b ∷ bs) z m = ap (λ (end : ℕ). reading 10 (k + 1) at end d) m

  -- the line has a newline, which stands at `end`
  pub read_line : (end : ℕ) → at ≤ length text → end ≡ end_from text at → end < length text
      → (let t = line_taken d (take (end - at) (drop at text)) in
      read_from k at d (split (drop at text)) ≡ if_read t (k + 1) at end d (read_from (k + 1) (end + 1) t.draft (split (drop (end + 1) text))))
  unfolding read_from
  read_line end i e h =
      let m : length (take (end - at) (drop at text)) ≡ end - at = length-take-le (end - at) (drop at text) (omega (arith, length-drop at text)) in
      let x : at + length (take (end - at) (drop at text)) ≡ end = omega (arith, end_most text at i) in
      rw (line_whole text at end i e h, x)

-- a text that is not too long is read from its start
pub read_start : (text : List ℕ) → length text ≤ 32768 → read_sheet text ≡ read_from 0 0 unread (split text)
unfolding read_sheet
read_start text h = rw (le-ltb 32768 (length text) h)

-- what is said of a reading of the text
pub promised : (text : List ℕ) {r : Reading} → r ≡ read_sheet text → (r ≡ read_sheet text) × (r.number ≡ 0 → Keeps r.sheet)
promised text e = (e, subst⁻¹ (λ (r : Reading). r.number ≡ 0 → Keeps r.sheet) e (read_keeps text))

-- so an answer without a refusal keeps the limits
pub answer_keeps : (text : List ℕ) (r : ReadSheet) → reading_told r ≡ read_sheet text → r.refusal ≡ None → Keeps r.sheet
unfolding reading_told number_or_0
answer_keeps text r e none = (promised text e).1 (ap number_or_0 none)

-- the part that a reading hands back lies within the text
pub record PartOf (n : ℕ) (r : Reading) : Type 0 where
  pub order : r.start ≤ r.end
  pub inside : r.end ≤ n

-- a part within the text, whether the line is taken or refused
part_if : {n : ℕ} (t : Taken) (k start end : ℕ) (d : Draft) (r : Reading) → PartOf n r → start ≤ end → end ≤ n → PartOf n (if_read t k start end d r)
unfolding if_read
part_if {n} t k start end d r p h g = go (eqb t.number 0)
  where
    go : (b : Bool) → PartOf n (cond b r (reading t.number k start end d))
    go true = p
    go false = record { order = h; inside = g }

part_from : (k at : ℕ) (d : Draft) (ls : Lines) → PartOf (at + length (bytes ls)) (read_from k at d ls)
unfolding read_from bytes
part_from k at d (rest []) = go (is_complete d.due)
  where
    go : (b : Bool) → PartOf (at + 0) (cond b (reading 0 k at at d) (reading 10 (k + 1) at at d))
    go true = record { order = omega arith; inside = omega arith }
    go false = record { order = omega arith; inside = omega arith }
part_from k at d (rest (b ∷ bs)) = record { order = omega arith; inside = omega arith }
part_from k at d (line l ls) =
    let on = part_from (k + 1) (at + length l + 1) (line_taken d l).draft ls in
    let size : length (ended l ++ bytes ls) ≡ length l + 1 + length (bytes ls) = simp length-append in
    part_if (line_taken d l) _ _ _ d _ (record { order = on.order; inside = omega (arith, on.inside, size) }) (omega arith) (omega (arith, size))

-- the part that is handed back lies within the text
pub read_part : (text : List ℕ) → PartOf (length text) (read_sheet text)
unfolding read_sheet
read_part text = go (ltb 32768 (length text)) (part_from 0 0 unread (split text))
  where
    go : (b : Bool) → PartOf (0 + length (bytes (split text))) (read_from 0 0 unread (split text))
        → PartOf (length text) (cond b (reading 11 0 0 0 unread) (read_from 0 0 unread (split text)))
    go true p = record { order = omega arith; inside = omega arith }
    go false p = record { order = p.order; inside = omega (arith, p.inside, ap length (bytes_split text)) }
