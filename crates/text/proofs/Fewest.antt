-- The digits that the library io puts are those of the definition too.
-- Assumes nothing.
use Rattle.std.proofs.Common.{◌≡◌, ℕ, zero, suc, ◌+◌, ◌*◌, ◌/◌, ◌%◌, ◌^◌, ◌≤◌, ◌<◌, le-div_iff_mul-le, pow-suc, arith, lt-ltb}
use Rattle.std.proofs.Math.Nat.{one-le-pow}
use Rattle.std.proofs.Math.Numerals.{unary_clauses}
use Rattle.io.specs.Digits.{hex_digit_ascii, last_digits, IsDigitCount}
use Rattle.text.specs.Text.{decimal}
use Rattle.text.proofs.Decimal.{decimal_small, decimal_more, tenth}

last_digit_lem : (n : ℕ) → hex_digit_ascii (n % 10) ≡ 48 + n % 10
last_digit_lem n = rw (lt-ltb (n % 10) 10 (omega arith))

-- a number from 10 ^ k on and below 10 ^ (k + 1), or from 0 on where k is 0, has k + 1 digits
spelled : (k n : ℕ) → n < 10 ^ suc k → (0 < k → 10 ^ k ≤ n) → last_digits 10 (suc k) n ≡ decimal n
spelled zero n h l =
    let one : n % 10 ≡ n = omega arith in
    rw (last_digit_lem n, one, decimal_small n h)
spelled (suc k) n h l =
    let low : 10 ^ k * 10 ≤ n = rw (pow-suc 10 k) at (l (omega arith)) in
    let ten : 10 ≤ n = omega (arith, one-le-pow k 10 (omega arith)) in
    rw (last_digit_lem n, decimal_more n ten, spelled k (n / 10) (tenth (suc k) n h) (λ _. (le-div_iff_mul-le {k = 10} (omega arith)).1 low))

-- the fewest digits that hold a number are its decimal digits
pub fewest_decimal : (n k : ℕ) → IsDigitCount 10 1 n k → last_digits 10 k n ≡ decimal n
fewest_decimal n zero f = absurd (omega (arith, f.0))
fewest_decimal n (suc k) f = spelled k n f.1 (λ p. simp unary_clauses at (f.2 (omega arith)))
