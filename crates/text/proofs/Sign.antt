-- A number with its sign: the sign where it is below 0, and its size in digits.
-- Assumes nothing.
use Rattle.std.proofs.Common.{◌≡◌, refl, sym, ◌∙◌, ap, subst, true, false, List, [], ◌∷◌, append-nil, ℕ, suc, zero-le, ◌≤◌, arith, T, ℤ, pos, negsuc, nat_abs, length, le-ltb}
use Rattle.std.specs.Int.Signed.{lt_z}
use Rattle.text.specs.Text.{joined, minus, decimal, signed_parts, signed_decimal}

-- below 0 the sign comes first
pub signed_below : (z : ℤ) → lt_z z (pos 0) ≡ true → signed_parts z ≡ (minus ∷ []) ∷ decimal (nat_abs z) ∷ []
unfolding signed_parts
signed_below (pos n) h = absurd (subst T (sym h ∙ le-ltb n 0 zero-le) tt)
signed_below (negsuc n) h = refl

-- from 0 on there is none
pub signed_from_zero : (z : ℤ) → lt_z z (pos 0) ≡ false → signed_parts z ≡ decimal (nat_abs z) ∷ []
unfolding signed_parts
signed_from_zero (pos n) h = refl
signed_from_zero (negsuc n) h = absurd (subst T h tt)

-- the whole text of it
pub signed_pos : (n : ℕ) → signed_decimal (pos n) ≡ decimal n
unfolding signed_parts joined
signed_pos n = append-nil (decimal n)

pub signed_neg : (n : ℕ) → signed_decimal (negsuc n) ≡ minus ∷ decimal (suc n)
unfolding signed_parts joined
signed_neg n = ap (λ (d : List ℕ). minus ∷ d) (append-nil (decimal (suc n)))

-- so there is at most one byte more than digits
pub signed_length : (z : ℤ) → length (signed_decimal z) ≤ suc (length (decimal (nat_abs z)))
signed_length (pos n) = rw (signed_pos n) (omega arith)
signed_length (negsuc n) = rw (signed_neg n) (omega arith)
