-- Sums of comparisons with a square root, made on squares: x g² against u² stands for g √x against u.
-- Assumes nothing.
use Rattle.std.proofs.Common.{◌≡◌, sym, ◌∙◌, ap, ◌⊎◌, inl, inr, ℕ, ◌+◌, ◌*◌, ◌-◌, ◌≤◌, ◌<◌, mul_comm, mul-add, add-mul, mul-le-mul, mul-le-mul_left, mul-lt-mul_of_pos_right, le_of_lt, lt_of_lt_of_le, lt_of_le_of_lt, lt_of_not-le, arith}
use Rattle.std.proofs.Math.Decide.{dec_le}
use Rattle.std.proofs.Math.Nat.{mul-mul-mul_comm}
use Rattle.reduction.specs.Least.{sq}
use Rattle.reduction.proofs.Squares.{sq_le, sq_le⁻¹, sq_lt⁻¹}

-- (a + b)², with x before it, and (x g h)²
sq_sum : (a b : ℕ) → sq (a + b) ≡ sq a + (a * b + a * b) + sq b
sq_sum a b = add-mul a b (a + b) ∙ simp (mul-add, mul_comm b a) (omega arith)

sq_sum_times : (x g h : ℕ) → x * sq (g + h) ≡ x * sq g + (x * (g * h) + x * (g * h)) + x * sq h
sq_sum_times x g h = ap (λ (n : ℕ). x * n) (sq_sum g h) ∙ simp mul-add

cross : (x g h : ℕ) → sq (x * (g * h)) ≡ (x * sq g) * (x * sq h)
cross x g h =
    mul-mul-mul_comm x (g * h) x (g * h)
    ∙ (ap (λ (n : ℕ). x * x * n) (mul-mul-mul_comm g h g h) ∙ sym (mul-mul-mul_comm x (g * g) x (h * h)))

-- u ≤ g √x and v ≤ h √x give u + v ≤ (g + h) √x
pub root_le : (x g h u v : ℕ) → sq u ≤ x * sq g → sq v ≤ x * sq h → sq (u + v) ≤ x * sq (g + h)
root_le x g h u v p q =
    let m : u * v ≤ x * (g * h) = sq_le⁻¹ (rw (cross, mul-mul-mul_comm u v u v) (mul-le-mul p q)) in
    rw (sq_sum_times x g h, sq_sum u v) (omega arith)

-- g √x < u and h √x < v give (g + h) √x < u + v
pub root_lt : (x g h u v : ℕ) → x * sq g < sq u → x * sq h < sq v → x * sq (g + h) < sq (u + v)
root_lt x g h u v p q =
    let m : x * (g * h) < u * v =
    sq_lt⁻¹ (rw (cross, mul-mul-mul_comm u v u v) (lt_of_le_of_lt (mul-le-mul_left _ (le_of_lt q)) (mul-lt-mul_of_pos_right p (omega arith)))) in
    rw (sq_sum_times x g h, sq_sum u v) (omega arith)

-- (p − q) √x < u, where p − q may be negative
abbrev pub Below : ℕ → ℕ → ℕ → ℕ → Type 0
Below x p q u = (p < q) ⊎ (x * sq (p - q) < sq u)

-- a difference of at most g, with g √x < u
below_from : (x p q u g : ℕ) → p - q ≤ g → x * sq g < sq u → Below x p q u
below_from x p q u g h k =
    elim (dec_le q p) [ yes _ ↦ inr (lt_of_le_of_lt (mul-le-mul_left x (sq_le h)) k) | no n ↦ inl (lt_of_not-le n) ]

pub below_sum : (x p q u p' q' u' : ℕ) → Below x p q u → Below x p' q' u' → Below x (p + p') (q + q') (u + u')
below_sum x p q u p' q' u' (inl a) (inl b) = inl (omega arith)
below_sum x p q u p' q' u' (inl a) (inr b) =
    below_from x (p + p') (q + q') (u + u') (p' - q') (omega arith) (lt_of_lt_of_le b (sq_le (omega arith)))
below_sum x p q u p' q' u' (inr a) (inl b) =
    below_from x (p + p') (q + q') (u + u') (p - q) (omega arith) (lt_of_lt_of_le a (sq_le (omega arith)))
below_sum x p q u p' q' u' (inr a) (inr b) =
    below_from x (p + p') (q + q') (u + u') ((p - q) + (p' - q')) (omega arith) (root_lt x (p - q) (p' - q') u u' a b)
