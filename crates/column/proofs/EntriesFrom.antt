-- The entries of a list of numbers from an index on.
-- Assumes nothing.
use Rattle.std.proofs.Common.{◌≡◌, refl, List, [], ◌∷◌, ℕ, ◌+◌, ◌-◌, ◌≤◌, ◌<◌, add-one, arith, length, take, drop, get_or, length-drop, drop-cons, take_all}
use Rattle.column.specs.declared.Line.{Line}
use Rattle.column.specs.Line.{line, entries_of}

next : (ns : List ℕ) (i j : ℕ) → j ≡ i + 1 → i < length ns → drop i ns ≡ get_or ns i 0 ∷ drop j ns
next ns i j e h = rw (e, add-one, drop-cons ns i 0 h)

four : (ns : List ℕ) (i : ℕ) → i + 4 ≤ length ns
    → drop i ns ≡ get_or ns i 0 ∷ (get_or ns (i + 1) 0 ∷ (get_or ns (i + 2) 0 ∷ (get_or ns (i + 3) 0 ∷ drop (i + 4) ns)))
four ns i h =
    rw (next ns i (i + 1) refl (omega arith), next ns (i + 1) (i + 2) (omega arith) (omega arith), next ns (i + 2) (i + 3) (omega arith) (omega arith), next ns (i + 3) (i + 4) (omega arith) (omega arith))

-- the entry that four numbers make, from an index on
abbrev pub entry_at : List ℕ → ℕ → Line
entry_at ns i = line (get_or ns i 0) (get_or ns (i + 1) 0) (get_or ns (i + 2) 0) (get_or ns (i + 3) 0)

-- it is the first of the entries from there on
pub entries_next : (ns : List ℕ) (i : ℕ) → i + 4 ≤ length ns
    → entries_of (drop i ns) ≡ entry_at ns i ∷ entries_of (drop (i + 4) ns)
unfolding entries_of
entries_next ns i h = rw (four ns i h)

-- fewer than four make none
pub entries_few : (ns : List ℕ) → length ns < 4 → entries_of ns ≡ []
unfolding entries_of
entries_few [] h = refl
entries_few (a ∷ []) h = refl
entries_few (a ∷ (b ∷ [])) h = refl
entries_few (a ∷ (b ∷ (c ∷ []))) h = refl
entries_few (a ∷ (b ∷ (c ∷ (d ∷ ns)))) h = absurd (omega arith)

-- and so from an index on
pub entries_end : (ns : List ℕ) (i : ℕ) → length ns < i + 4 → entries_of (drop i ns) ≡ []
entries_end ns i h = entries_few (drop i ns) (rw (length-drop i ns) (omega arith))

-- the part of four numbers from an index on is one entry
pub entries_one : (ns : List ℕ) (i n : ℕ) → n ≡ 4 → i + 4 ≤ length ns → entries_of (take n (drop i ns)) ≡ entry_at ns i ∷ []
unfolding entries_of
entries_one ns i n e h = rw (e, four ns i h)

-- the first of some numbers and those after them, as a pattern takes a list apart
pub entries_first : (ns : List ℕ) → 4 ≤ length ns → entries_of ns ≡ entry_at ns 0 ∷ entries_of (take (length ns - 4) (drop 4 ns))
entries_first ns h = rw (take_all (length ns - 4) (drop 4 ns) (omega (arith, length-drop 4 ns))) (entries_next ns 0 h)

-- there are no more entries than numbers
pub entries_length : (ns : List ℕ) → length (entries_of ns) ≤ length ns
unfolding entries_of
entries_length (f ∷ (c ∷ (l ∷ (a ∷ ns)))) = omega (arith, entries_length ns)
entries_length (f ∷ (c ∷ (l ∷ []))) = omega arith
entries_length (f ∷ (c ∷ [])) = omega arith
entries_length (f ∷ []) = omega arith
entries_length [] = omega arith
