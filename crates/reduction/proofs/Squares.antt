-- Squares keep the order of whole numbers, so a comparison with a square root is one of squares.
-- Assumes nothing.
use Rattle.std.proofs.Common.{◌≡◌, ◌∙◌, ap, sym, ℕ, ◌+◌, ◌*◌, ◌-◌, ◌≤◌, ◌<◌, mul_assoc, mul_comm, mul-add, mul-le-mul, mul-le-mul_left, mul-le-mul_right, mul-lt-mul_of_pos_right, lt_of_le_of_lt, lt_of_not-le, not-le_of_lt, le_of_lt, arith}
use Rattle.std.proofs.Math.Decide.{dec_le}
use Rattle.std.proofs.Math.Nat.{mul-mul-mul_comm}
use Rattle.reduction.specs.Least.{sq}

pub sq_le : {a b : ℕ} → a ≤ b → sq a ≤ sq b
sq_le h = mul-le-mul h h

pub sq_lt : {a b : ℕ} → a < b → sq a < sq b
sq_lt {a} {b} h = lt_of_le_of_lt (mul-le-mul_left a (le_of_lt h)) (mul-lt-mul_of_pos_right h (omega arith))

pub sq_le⁻¹ : {a b : ℕ} → sq a ≤ sq b → a ≤ b
sq_le⁻¹ {a} {b} h = elim (dec_le a b) [ yes p ↦ p | no n ↦ absurd (not-le_of_lt (sq_lt (lt_of_not-le n)) h) ]

pub sq_lt⁻¹ : {a b : ℕ} → sq a < sq b → a < b
sq_lt⁻¹ {a} {b} h = elim (dec_le b a) [ yes p ↦ absurd (not-le_of_lt h (sq_le p)) | no n ↦ lt_of_not-le n ]

pub sq_mul : (a b : ℕ) → sq (a * b) ≡ sq a * sq b
sq_mul a b = mul-mul-mul_comm a b a b

-- x (5 e)² is 25 x e²
pub sq_five : (x e : ℕ) → x * sq (5 * e) ≡ 25 * x * sq e
sq_five x e =
    ap (λ (n : ℕ). x * n) (sq_mul 5 e) ∙ (sym (mul_assoc x 25 (sq e)) ∙ ap (λ (n : ℕ). n * sq e) (mul_comm x 25))

-- a product of two numbers is at most the square of half their sum
half : (a b s : ℕ) → a ≤ s → a + b ≤ 2 * s → a * b ≤ sq s
half a b s h k =
    let product : a * b ≤ a * (s + (s - a)) = mul-le-mul_left a (omega arith) in
    let parts : s * (a + (s - a)) ≡ s * a + s * (s - a) = mul-add s a (s - a) in
    let whole : s * s ≡ s * (a + (s - a)) = ap (λ (n : ℕ). s * n) (omega arith) in
    omega (arith, mul-add a s (s - a), mul_comm a s, mul-le-mul_right (s - a) h)

pub under_square : (a b s : ℕ) → a + b ≤ 2 * s → a * b ≤ sq s
under_square a b s h =
    elim (dec_le a s) [
      | yes p ↦ half a b s p h
      | no n ↦ rw (mul_comm a b) (half b a s (omega (arith, lt_of_not-le n)) (omega arith))
    ]
