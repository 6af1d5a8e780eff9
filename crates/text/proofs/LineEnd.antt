-- Where a line ends: bytes without a newline are passed over, and the lines of a text from a place on.
-- Assumes nothing.
use Rattle.std.proofs.Common.{◌≡◌, refl, ap, Bool, true, false, cond, List, [], ◌∷◌, ℕ, zero, suc, ◌+◌, ◌-◌, ◌≤◌, ◌<◌, not-suc-le-zero, arith, eqb, length, take, drop, get_or, length-drop, drop-drop}
use Rattle.text.specs.Lines.{newline, index_of, index_after, line, rest, with_byte, split, end_from}

-- where no byte is a newline, none is found
pub index_absent : (bs : List ℕ) → ((k : ℕ) → k < length bs → eqb (get_or bs k 0) newline ≡ true → ⊥) → index_of newline bs ≡ length bs
unfolding index_of index_after
index_absent [] h = refl
index_absent (b ∷ bs) h = go (eqb b newline) refl (index_absent bs (λ k l. h (suc k) (omega arith)))
  where
    go : (t : Bool) → eqb b newline ≡ t → index_of newline bs ≡ length bs → index_after t (index_of newline bs) ≡ suc (length bs)
    go true e i = absurd (h 0 (omega arith) e)
    go false e i = ap suc i

-- the first newline is found
pub index_first : (bs : List ℕ) (i : ℕ) → i < length bs → eqb (get_or bs i 0) newline ≡ true → ((k : ℕ) → k < i → eqb (get_or bs k 0) newline ≡ true → ⊥)
    → index_of newline bs ≡ i
unfolding index_of index_after
index_first [] i l e h = absurd (omega arith)
index_first (b ∷ bs) zero l e h = rw e
index_first (b ∷ bs) (suc i) l e h = go (eqb b newline) refl (index_first bs i (omega arith) e (λ k l. h (suc k) (omega arith)))
  where
    go : (t : Bool) → eqb b newline ≡ t → index_of newline bs ≡ i → index_after t (index_of newline bs) ≡ suc i
    go true e j = absurd (h 0 (omega arith) e)
    go false e j = ap suc j

-- what is found in a text from a place on is found within it
index_most : (bs : List ℕ) → index_of newline bs ≤ length bs
unfolding index_of index_after
index_most [] = omega arith
index_most (b ∷ bs) = go (eqb b newline) (index_most bs)
  where
    go : (t : Bool) → index_of newline bs ≤ length bs → index_after t (index_of newline bs) ≤ suc (length bs)
    go true h = omega arith
    go false h = omega arith

-- the first line of bytes that have a newline, and the lines after it
index_line : (bs : List ℕ) → index_of newline bs < length bs
    → split bs ≡ line (take (index_of newline bs) bs) (split (drop (suc (index_of newline bs)) bs))
unfolding split with_byte index_of index_after
index_line [] h = absurd (not-suc-le-zero h)
index_line (b ∷ bs) h = go (eqb b newline) h (index_line bs)
  where
    I : Bool → ℕ
    I t = index_after t (index_of newline bs)

    go : (t : Bool) → I t < suc (length bs)
        → (index_of newline bs < length bs → split bs ≡ line (take (index_of newline bs) bs) (split (drop (suc (index_of newline bs)) bs)))
        → cond t (line [] (split bs)) (with_byte b (split bs)) ≡ line (take (I t) (b ∷ bs)) (split (drop (suc (I t)) (b ∷ bs)))
    go true h f = refl
    go false h f = rw (f (omega arith))

-- bytes without a newline
index_none : (bs : List ℕ) → index_of newline bs ≡ length bs → split bs ≡ rest bs
unfolding split with_byte index_of index_after
index_none [] h = refl
index_none (b ∷ bs) h = go (eqb b newline) h (index_none bs)
  where
    go : (t : Bool) → index_after t (index_of newline bs) ≡ suc (length bs) → (index_of newline bs ≡ length bs → split bs ≡ rest bs)
        → cond t (line [] (split bs)) (with_byte b (split bs)) ≡ rest (b ∷ bs)
    go true h f = absurd (omega arith)
    go false h f = rw (f (omega arith))

-- the end of a line is within the text
pub end_most : (text : List ℕ) (at : ℕ) → at ≤ length text → (at ≤ end_from text at) × (end_from text at ≤ length text)
unfolding end_from
end_most text at h = omega (arith, index_most (drop at text), length-drop at text)

-- a line that lacks its newline is the rest of the text
pub line_short : (text : List ℕ) (at : ℕ) → at ≤ length text → end_from text at ≡ length text → split (drop at text) ≡ rest (drop at text)
unfolding end_from
line_short text at h e = index_none (drop at text) (omega (arith, length-drop at text))

-- a line that has its newline, and the lines after it
pub line_whole : (text : List ℕ) (at end : ℕ) → at ≤ length text → end ≡ end_from text at → end < length text
    → split (drop at text) ≡ line (take (end - at) (drop at text)) (split (drop (end + 1) text))
unfolding end_from
line_whole text at end i e h =
    let n : index_of newline (drop at text) ≡ end - at = omega arith in
    let y : at + suc (end - at) ≡ end + 1 = omega arith in
    rw (index_line (drop at text) (omega (arith, length-drop at text)), n, drop-drop, y)
