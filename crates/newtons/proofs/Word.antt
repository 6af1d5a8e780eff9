-- The size of a number, and those that a word of 64 bits keeps. Assumes nothing.
use Rattle.std.proofs.Common.{◌≡◌, refl, ℕ, zero, suc, ◌^◌, ◌≤◌, ◌<◌, le_refl, lt_of_le_of_lt, arith, ℤ, pos, negsuc, neg_ℤ, nat_abs, w64, SFits, to_z, of_z}
use Rattle.std.specs.Int.Signed.{mag}
use Rattle.std.proofs.lemmas.Int.{to_z-of_z}

-- ---- the size of a number, and those that 64 bits keep

pub size_neg : (n : ℕ) → nat_abs (neg_ℤ (pos n)) ≡ n
size_neg zero = refl
size_neg (suc n) = refl

pub mag_le : (z : ℤ) → mag z ≤ nat_abs z
mag_le (pos n) = le_refl n
mag_le (negsuc n) = omega arith

pub small_fits : {z : ℤ} {n : ℕ} → nat_abs z ≤ n → n < 2 ^ 63 → SFits w64 z
small_fits {z} {n} h k = record { sfits = lt_of_le_of_lt (mag_le z) (lt_of_le_of_lt h k) }

pub kept : {z : ℤ} {n : ℕ} → nat_abs z ≤ n → n < 2 ^ 63 → to_z w64 (of_z w64 z) ≡ z
kept {z} h k = to_z-of_z w64 z (small_fits h k)
