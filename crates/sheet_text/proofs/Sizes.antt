-- Lines that say something have no newline in them, and are not long.
-- Assumes nothing.
use Rattle.std.proofs.Common.{◌≡◌, refl, sym, subst, List, [], ◌∷◌, ◌++◌, ℕ, zero, suc, ◌+◌, ◌*◌, ◌≤◌, zero-add, arith, length, length-append, ℤ, pos, negsuc, nat_abs, ne_eqb}
use Rattle.text.specs.Text.{joined, decimal, signed_decimal}
use Rattle.text.specs.theorems.Texts.{newlines}
use Rattle.text.proofs.Sign.{signed_pos, signed_neg, signed_length}
use Rattle.text.proofs.Decimal.{length_most, decimal_all}
use Rattle.lists.specs.Lists.{All, none, more}
use Rattle.sheet_lines.specs.declared.Due.{Due}
use Rattle.sheet_lines.specs.declared.Form.{Form}
use Rattle.sheet_lines.specs.Form.{member_keys, floor_keys, effect_keys}
use Rattle.sheet_lines.specs.LineText.{line_numbers, fields_text, member_text, floor_text, effect_text}
use Rattle.sheet_lines.specs.theorems.Says.{key_at, as_written, Says, member, floor, effect}
use Rattle.sheet_lines.proofs.Fields.{Short}
use Rattle.sheet_lines.proofs.SaysForm.{ShortForm}

-- ---- no newline

-- the newlines of two texts, one behind the other, are those of both
pub newlines_append : (a b : List ℕ) → newlines (a ++ b) ≡ newlines a + newlines b
unfolding newlines
newlines_append [] b = sym (zero-add (newlines b))
newlines_append (x ∷ a) b = omega (arith, newlines_append a b)

both : (a b : List ℕ) → newlines a ≡ 0 → newlines b ≡ 0 → newlines (a ++ b) ≡ 0
both a b h k = omega (arith, newlines_append a b)

digit_clean : (d : ℕ) → newlines ((48 + d) ∷ []) ≡ 0
unfolding newlines
digit_clean d = rw (ne_eqb (48 + d) 10 (λ e. omega arith))

decimal_clean : (n : ℕ) → newlines (decimal n) ≡ 0
decimal_clean n = decimal_all (λ a. newlines a ≡ 0) digit_clean (λ a d h. both a ((48 + d) ∷ []) h (digit_clean d)) n

signed_clean : (z : ℤ) → newlines (signed_decimal z) ≡ 0
unfolding newlines
signed_clean (pos n) = rw (signed_pos n) (decimal_clean n)
signed_clean (negsuc n) = rw (signed_neg n, decimal_clean (suc n))

fields_clean : (keys : List (List ℕ)) (ns : List ℕ) → newlines (joined keys) ≡ 0 → newlines (fields_text keys ns) ≡ 0
unfolding joined fields_text newlines
fields_clean [] ns h = refl
fields_clean (key ∷ keys) [] h = refl
fields_clean (key ∷ keys) (n ∷ ns) h =
    let k = newlines_append key (joined keys) in
    both key (decimal n ++ fields_text keys ns) (omega arith) (both (decimal n) (fields_text keys ns) (decimal_clean n) (fields_clean keys ns (omega arith)))

key_clean : (keys : List (List ℕ)) (k : ℕ) → newlines (joined keys) ≡ 0 → newlines (key_at keys k) ≡ 0
unfolding joined newlines
key_clean [] k h = refl
key_clean (key ∷ keys) zero h = omega (arith, newlines_append key (joined keys))
key_clean (key ∷ keys) (suc k) h = key_clean keys k (omega (arith, newlines_append key (joined keys)))

-- a line that says something has no newline
pub says_clean : {due : Due} {l : List ℕ} {f : Form} → Says due l f → newlines l ≡ 0
unfolding member_text floor_text effect_text member_keys floor_keys effect_keys joined newlines
says_clean (member code d f t) = rw t (fields_clean member_keys (code ∷ []) refl)
says_clean (floor x d f (as_written t)) = rw t (fields_clean floor_keys (line_numbers x) refl)
says_clean (effect k z q d f t) = rw t (both (key_at effect_keys k) (signed_decimal z) (key_clean effect_keys k refl) (signed_clean z))

-- ---- at most 13 digits to a number

fields_length : (keys : List (List ℕ)) {ns : List ℕ} → All Short ns → length (fields_text keys ns) ≤ length (joined keys) + 13 * length ns
unfolding joined fields_text
fields_length [] a = omega arith
fields_length (key ∷ keys) none = omega arith
fields_length (key ∷ keys) (more {x = n} {xs = ns} h a) =
    omega (arith, length-append key (decimal n ++ fields_text keys ns), length-append (decimal n) (fields_text keys ns), length-append key (joined keys), length_most 12 n h, fields_length keys a)

key_length : (keys : List (List ℕ)) (k : ℕ) → length (key_at keys k) ≤ length (joined keys)
unfolding joined
key_length [] k = omega arith
key_length (key ∷ keys) zero = omega (arith, length-append key (joined keys))
key_length (key ∷ keys) (suc k) = omega (arith, length-append key (joined keys), key_length keys k)

-- a line that says something has at most 77 bytes
pub says_length : {due : Due} {l : List ℕ} {f : Form} → Says due l f → ShortForm f → length l ≤ 77
unfolding ShortForm member_text floor_text effect_text member_keys floor_keys effect_keys joined line_numbers
says_length (member code d f t) h = rw t (omega (arith, fields_length member_keys (more (subst ShortForm f h) none)))
says_length (floor x d f (as_written t)) h = rw t (omega (arith, fields_length floor_keys (subst ShortForm f h)))
says_length (effect k z q d f t) h = rw t (omega (arith, length-append (key_at effect_keys k) (signed_decimal z), key_length effect_keys k, signed_length z, length_most 12 (nat_abs z) (subst ShortForm f h)))
