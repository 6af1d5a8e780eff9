-- Where the newlines of a text stand: the next one from a place on is where a line ends, and where none is left the text ends.
-- Assumes nothing.
use Rattle.std.proofs.Common.{◌≡◌, sym, ◌∙◌, ap, Bool, true, false, cond, List, [], ◌∷◌, ℕ, zero, suc, ◌+◌, ◌-◌, ◌<◌, ◌≤◌, arith, eqb, length, drop, get_or, drop_of_length-le}
use Rattle.std.proofs.lemmas.List.{drop_more}
use Rattle.memchr.specs.Find.{is_byte, places_from, places_between}
use Rattle.text.specs.Lines.{newline, index_of, index_after, end_from}

-- the newlines of a text from a place on
abbrev pub newlines_from : List ℕ → ℕ → List ℕ
newlines_from text at = places_between (is_byte newline) text at (length text)

module _ (text : List ℕ) where
  -- the next newline from a place on, and those after it
  pub record Next (at end : ℕ) (later : List ℕ) : Type 0 where
    pub ends : end ≡ end_from text at
    pub low : at ≤ end
    pub high : end < length text
    pub left : later ≡ newlines_from text (end + 1)

  -- where a line ends, seen from one byte before
  step : (at : ℕ) → at < length text
      → index_of newline (drop at text) ≡ index_after (eqb (get_or text at 0) newline) (index_of newline (drop (at + 1) text))
  unfolding index_of
  step at h = ap (index_of newline) (drop_more text at 0 h)

  next_of : (n at end : ℕ) (later : List ℕ) → at + n ≡ length text → places_from (is_byte newline) text at n ≡ end ∷ later → Next at end later
  unfolding places_from end_from index_after
  next_of zero at end later h e = absurd (omega (arith, ap length e))
  next_of (suc n) at end later h e =
      go (eqb (get_or text at 0) newline) (step at (omega arith)) (next_of n (at + 1) end later (omega arith)) e
    where
      go : (t : Bool) → index_of newline (drop at text) ≡ index_after t (index_of newline (drop (at + 1) text))
          → (places_from (is_byte newline) text (at + 1) n ≡ end ∷ later → Next (at + 1) end later)
          → cond t (at ∷ places_from (is_byte newline) text (at + 1) n) (places_from (is_byte newline) text (at + 1) n) ≡ end ∷ later → Next at end later
      go true s f e =
          let same : at ≡ end = ap (λ (l : List ℕ). get_or l 0 0) e in
          let size : n ≡ length text - (end + 1) = omega arith in
          record {
            ends = omega arith;
            low = omega arith;
            high = omega arith;
            left = sym (ap (drop 1) e) ∙ rw (same, size);
          }
      go false s f e =
          let r = f e in
          record { ends = omega (arith, r.ends); low = omega (arith, r.low); high = r.high; left = r.left }

  -- the next newline from a place on
  pub next_newline : (at end : ℕ) (later : List ℕ) → at ≤ length text → newlines_from text at ≡ end ∷ later → Next at end later
  next_newline at end later h e = next_of (length text - at) at end later (omega arith) e

  none_of : (n at : ℕ) → at + n ≡ length text → places_from (is_byte newline) text at n ≡ [] → end_from text at ≡ length text
  unfolding places_from end_from index_of index_after
  none_of zero at h e =
      let past : length text ≤ at = omega arith in
      rw (drop_of_length-le text past) (omega arith)
  none_of (suc n) at h e =
      go (eqb (get_or text at 0) newline) (step at (omega arith)) (none_of n (at + 1) (omega arith)) e
    where
      go : (t : Bool) → index_of newline (drop at text) ≡ index_after t (index_of newline (drop (at + 1) text))
          → (places_from (is_byte newline) text (at + 1) n ≡ [] → (at + 1) + index_of newline (drop (at + 1) text) ≡ length text)
          → cond t (at ∷ places_from (is_byte newline) text (at + 1) n) (places_from (is_byte newline) text (at + 1) n) ≡ []
          → at + index_of newline (drop at text) ≡ length text
      go true s f e = absurd (omega (arith, ap length e))
      go false s f e = omega (arith, f e)

  -- where no newline is left from a place on, the text ends without one
  pub no_newline : (at : ℕ) → at ≤ length text → newlines_from text at ≡ [] → end_from text at ≡ length text
  no_newline at h e = none_of (length text - at) at (omega arith) e
