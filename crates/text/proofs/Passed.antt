-- How the end of a line was found byte by byte: bytes without a newline are passed over.
-- Assumes nothing.
use Rattle.std.proofs.Common.{◌≡◌, sym, ◌∙◌, ap, Bool, true, false, ◌||◌, List, ℕ, zero, suc, ◌+◌, ◌≤◌, ◌<◌, add-zero, arith, eqb, length, drop, get_or, drop_of_length-le, drop-cons}
use Rattle.std.proofs.lemmas.Bool.{or_parts}
use Rattle.text.specs.Lines.{newline, index_of, index_after, end_from}

-- the byte at a place, or one of so many after it, is a newline
abbrev pub newline_within : List ℕ → ℕ → ℕ → Bool
newline_within text at zero = eqb (get_or text at 0) newline
newline_within text at (suc n) = newline_within text at n || eqb (get_or text (at + suc n) 0) newline

-- a byte that is no newline is passed over
pub one_passed : (text : List ℕ) (at : ℕ) → at < length text → eqb (get_or text at 0) newline ≡ false → end_from text at ≡ end_from text (suc at)
unfolding index_of index_after end_from
one_passed text at h e =
    let m : index_of newline (drop at text) ≡ suc (index_of newline (drop (suc at) text)) = rw (drop-cons text at 0, e) in
    omega arith

-- the line ends where a newline stands
pub ends_here : (text : List ℕ) (at : ℕ) → at < length text → eqb (get_or text at 0) newline ≡ true → at ≡ end_from text at
unfolding index_of index_after end_from
ends_here text at h e =
    let m : index_of newline (drop at text) ≡ 0 = rw (drop-cons text at 0, e) in
    omega arith

-- from the end of the text on there is nothing to look at
pub ends_none : (text : List ℕ) (at : ℕ) → length text ≤ at → at ≡ end_from text at
unfolding index_of end_from
ends_none text at h = rw (drop_of_length-le text {i = at} h) (sym (add-zero at))

-- a byte and so many after it, none of them a newline, are passed over
pub passed : (text : List ℕ) (at n : ℕ) → at + n < length text → newline_within text at n ≡ false → end_from text at ≡ end_from text (at + suc n)
passed text at zero h e = one_passed text at (omega arith) e ∙ ap (end_from text) (omega arith)
passed text at (suc n) h e =
    let no = or_parts (newline_within text at n) (eqb (get_or text (at + suc n) 0) newline) e in
    passed text at n (omega arith) no.0 ∙ (one_passed text (at + suc n) (omega arith) no.1 ∙ ap (end_from text) (omega arith))
