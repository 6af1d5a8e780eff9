-- The value of a double, from the fields of its bits, and back from a whole number. Assumes nothing.
use Rattle.std.proofs.Common.{◌≡◌, refl, sym, ap, ◌∙◌, subst, Bool, true, false, cond, not, ℕ, zero, suc, ◌+◌, ◌-◌, ◌*◌, ◌/◌, ◌%◌, ◌^◌, ◌≤◌, ◌<◌, zero-lt-suc, mod-lt, mod-eq_of_lt, div-one, lt_of_lt_of_le, mul-le-mul, mul_assoc, mul_right_comm, mul-one, add-zero, div-add-mod', arith, T, leb, eqb, eqb→eq, le→leb, lt→ltb, lit<, lit≤, ℤ, pos, negsuc, nat_abs, pow_pos, pow-add, pow_mono, Float, to_bits, eq-eqb, ne_eqb}
use Rattle.std.proofs.Math.Nat.{mod-one, mul-mod_left, eq_of_mul-eq-mul_right}
use Rattle.std.specs.Float.Ieee.{nan, inf, fin, binary64, up, down, odd, of_fields, of_bits, fits, is_nan, ne, in_float, of_int, round}
use Rattle.std.specs.Float.Ieee.Fits.{down_pos}
use Rattle.std.specs.Float.Ieee.Nearest.{div_same}
use Rattle.std.specs.Float.Ieee.Bits.{of_bits-to_bits}
use Rattle.std.specs.Float.Ieee.Back.{round_whole}
use Rattle.std.specs.Float.Ieee.Compare.{differs_from_itself}
use Rattle.std.specs.Float.Ieee.Exact.{HasValue, odd_sign}
use Rattle.newtons.specs.Effect.{whole, not_whole, signed, fraction, value_of}

-- ---- equal fractions have one value

same_test : (a b : Bool) → (T a → T b) → (T b → T a) → a ≡ b
same_test true true p q = refl
same_test true false p q = absurd (p tt)
same_test false true p q = absurd (q tt)
same_test false false p q = refl

-- where one of two equal fractions is whole, so is the other
rest_same : (a b c d : ℕ) → 0 < b → 0 < d → a * d ≡ c * b → a % b ≡ 0 → c % d ≡ 0
rest_same a b c d B D h z =
    let q : a / b ≡ c / d = div_same a b c d B D h in
    let w : c / d * b ≡ a = ap (λ (n : ℕ). n * b) (sym q) ∙ sym (add-zero (a / b * b)) ∙ ap (λ (n : ℕ). a / b * b + n) (sym z) ∙ div-add-mod' a b in
    let u : c / d * d ≡ c = eq_of_mul-eq-mul_right b B (c / d * d) c (mul_right_comm (c / d) d b ∙ ap (λ (n : ℕ). n * d) w ∙ h) in
    ap (λ (n : ℕ). n % d) (sym u) ∙ mul-mod_left (c / d) d

test_same : (a b c d : ℕ) → 0 < b → 0 < d → a * d ≡ c * b → eqb (a % b) 0 ≡ eqb (c % d) 0
test_same a b c d B D h =
    same_test (eqb (a % b) 0) (eqb (c % d) 0)
    (λ t. subst (λ (n : ℕ). T (eqb n 0)) (sym (rest_same a b c d B D h (eqb→eq (a % b) 0 t))) tt)
    (λ t. subst (λ (n : ℕ). T (eqb n 0)) (sym (rest_same c d a b D B (sym h) (eqb→eq (c % d) 0 t))) tt)

-- a double of sign s and size a / c, in whatever terms
pub value_is : (x : Float) (s : Bool) (a c : ℕ) → 0 < c → HasValue x s a c → value_of x ≡ fraction s a c
unfolding value_of
value_is nan s a c C v = absurd v
value_is (inf t) s a c C v = absurd v
value_is (fin t m e) s a c C v =
    let q = div_same (m * up e) (down e) a c (down_pos e) C v.1 in
    let r = test_same (m * up e) (down e) a c (down_pos e) C v.1 in
    let z = v.0 in
    cc

-- a whole number of at most 2^53 as a double keeps its value
pub value_back : (z : ℤ) → nat_abs z ≤ 2 ^ 53 → value_of (of_int binary64 z) ≡ whole z
unfolding of_int signed
value_back (pos n) h = value_is (round binary64 false n 1) false n 1 (lit< tt) (round_whole binary64 false n h) ∙ simp (mod-one n, div-one n)
value_back (negsuc n) h = value_is (round binary64 true (suc n) 1) true (suc n) 1 (lit< tt) (round_whole binary64 true (suc n) h) ∙ simp (mod-one (suc n), div-one (suc n))

-- and the cast of one loses nothing
pub in_float_lem : (z : ℤ) → nat_abs z ≤ 2 ^ 53 → T (in_float binary64 z)
unfolding in_float
in_float_lem (pos n) h = le→leb n (2 ^ 53) h
in_float_lem (negsuc n) h = lt→ltb n (2 ^ 53) h

-- ---- a double of sign s, exponent field e and digits field t

ends : (s : Bool) (t : ℕ) → value_of (of_fields binary64 s 2047 t) ≡ not_whole
unfolding of_fields value_of
ends s t = go (eqb t 0)
  where
    go : (b : Bool) → value_of (cond b (inf s) nan) ≡ not_whole
    go true = refl
    go false = refl

subnormal : (s : Bool) (t : ℕ) → HasValue (of_fields binary64 s 0 t) s t (2 ^ 1074)
unfolding of_fields
subnormal s t = subst (λ (n : ℕ). HasValue (odd 53 s t 0 1074) s n (2 ^ 1074)) (mul-one t) (odd_sign 53 s t 0 1074)

normal : (s : Bool) (k t : ℕ) → (suc k ≡ 2047 → ⊥) → HasValue (of_fields binary64 s (suc k) t) s ((2 ^ 52 + t) * 2 ^ k) (2 ^ 1074)
unfolding of_fields
normal s k t h = rw (ne_eqb (suc k) 2047 h) (odd_sign 53 s (2 ^ 52 + t) k 1074)

-- a factor above and below is cut
cut : (x : Float) (s : Bool) (a c p : ℕ) → 0 < p → HasValue x s (a * p) (c * p) → HasValue x s a c
cut nan s a c p P v = v
cut (inf t) s a c p P v = v
cut (fin t m e) s a c p P v =
    (v.0, eq_of_mul-eq-mul_right p P (m * up e * c) (a * down e) (mul_assoc (m * up e) c p ∙ v.1 ∙ mul_right_comm a p (down e)))

-- up to the exponent field 1075 a double is so many units, 2^(1075 - e) of which make 1
small : (s : Bool) (k t : ℕ) → suc k ≤ 1075 → HasValue (of_fields binary64 s (suc k) t) s (2 ^ 52 + t) (2 ^ (1075 - suc k))
small s k t h =
    cut (of_fields binary64 s (suc k) t) s (2 ^ 52 + t) (2 ^ (1075 - suc k)) (2 ^ k) (pow_pos k)
    (subst (λ (n : ℕ). HasValue (of_fields binary64 s (suc k) t) s ((2 ^ 52 + t) * 2 ^ k) n)
    (ap (λ (n : ℕ). 2 ^ n) parts ∙ pow-add 2 (1075 - suc k) k) (normal s k t (λ q. omega arith)))
  where
    parts : 1074 ≡ 1075 - suc k + k
    parts = omega arith

-- beyond it a double is whole
large : (s : Bool) (k t : ℕ) → 1075 < suc k → (suc k ≡ 2047 → ⊥) → HasValue (of_fields binary64 s (suc k) t) s ((2 ^ 52 + t) * 2 ^ (suc k - 1075)) 1
large s k t p h =
    cut (of_fields binary64 s (suc k) t) s ((2 ^ 52 + t) * 2 ^ (suc k - 1075)) 1 (2 ^ 1074) (pow_pos 1074)
    (subst (λ (n : ℕ). HasValue (of_fields binary64 s (suc k) t) s n (2 ^ 1074))
    (ap (λ (n : ℕ). (2 ^ 52 + t) * n) (ap (λ (n : ℕ). 2 ^ n) parts ∙ pow-add 2 (suc k - 1075) 1074) ∙ sym (mul_assoc (2 ^ 52 + t) (2 ^ (suc k - 1075)) (2 ^ 1074)))
    (normal s k t h))
  where
    parts : k ≡ suc k - 1075 + 1074
    parts = omega arith

-- above 0 and below 1
tiny : (s : Bool) (a c : ℕ) → (a ≡ 0 → ⊥) → a < c → fraction s a c ≡ not_whole
tiny s a c p h = simp (mod-eq_of_lt h, ne_eqb a 0 p)

-- ---- a double x with those fields

pub record Fields (x : Float) (s : Bool) (e t : ℕ) : Type 0 where
  pub is : of_fields binary64 s e t ≡ x
  pub digits : t < 2 ^ 52

pub fields_of : (x : Float) → T (fits binary64 x) → Fields x (leb (2 ^ 63) (to_bits binary64 x)) (to_bits binary64 x % 2 ^ 63 / 2 ^ 52) (to_bits binary64 x % 2 ^ 52)
unfolding of_bits
fields_of x h = record { is = of_bits-to_bits binary64 x h; digits = mod-lt (to_bits binary64 x) (pow_pos 52) }

-- a double that is equal to itself is a number or an infinity, and one that is not is neither
pub not_nan : (x : Float) → ne x x ≡ false → T (not (is_nan x))
unfolding ne is_nan
not_nan nan h = subst T h tt
not_nan (inf s) h = tt
not_nan (fin s m e) h = tt

pub differs_value : (x : Float) → ne x x ≡ true → value_of x ≡ not_whole
unfolding value_of
differs_value x h = subst (λ (y : Float). value_of y ≡ not_whole) (sym (differs_from_itself x (subst T (sym h) tt))) refl

pub nan_value : (x : Float) → is_nan x ≡ true → value_of x ≡ not_whole
unfolding is_nan value_of
nan_value nan h = refl
nan_value (inf s) h = refl
nan_value (fin s m e) h = absurd (subst T (sym h) tt)

-- the value by the fields, each exponent with its case
pub zero_value : {x : Float} {s : Bool} {e t : ℕ} → Fields x s e t → e ≡ 0 → t ≡ 0 → value_of x ≡ whole (pos 0)
unfolding signed
zero_value {x} {s} {e} {t} f p q =
    subst (λ (y : Float). value_of y ≡ whole (pos 0))
    (ap (λ (n : ℕ). of_fields binary64 s n 0) (sym p) ∙ (ap (λ (n : ℕ). of_fields binary64 s e n) (sym q) ∙ f.is))
    (value_is (of_fields binary64 s 0 0) s 0 (2 ^ 1074) (pow_pos 1074) (subnormal s 0) ∙ zero_signed s)
  where
    zero_signed : (s : Bool) → fraction s 0 (2 ^ 1074) ≡ whole (pos 0)
    zero_signed true = refl
    zero_signed false = refl

-- from 1 on and up to 1075: so many units, of which `one` make 1
between_value : {x : Float} {s : Bool} {e t : ℕ} → Fields x s e t → 0 < e → e ≤ 1075 → {one : ℕ} → one ≡ 2 ^ (1075 - e) → value_of x ≡ fraction s (2 ^ 52 + t) one
between_value {e = zero} f p h q = absurd (go p)
  where
    go : 0 < zero → ⊥
    go p = omega arith
between_value {x} {s} {e = suc k} {t} f p h q =
    value_is x s (2 ^ 52 + t) (2 ^ (1075 - suc k)) (pow_pos (1075 - suc k)) (subst (λ (y : Float). HasValue y s (2 ^ 52 + t) (2 ^ (1075 - suc k))) f.is (small s k t h))
    ∙ ap (λ (n : ℕ). fraction s (2 ^ 52 + t) n) (sym q)

pub below_one : {x : Float} {s : Bool} {e t : ℕ} → Fields x s e t → (e ≡ 0 → t ≡ 0 → ⊥) → e < 1023 → value_of x ≡ not_whole
below_one {x} {s} {e = zero} {t} f p h =
    value_is x s t (2 ^ 1074) (pow_pos 1074) (subst (λ (y : Float). HasValue y s t (2 ^ 1074)) f.is (subnormal s t))
    ∙ tiny s t (2 ^ 1074) (p refl) (lt_of_lt_of_le f.digits (lit≤ tt))
below_one {x} {s} {e = suc k} {t} f p h =
    between_value f (zero-lt-suc k) (omega arith) refl
    ∙ tiny s (2 ^ 52 + t) (2 ^ (1075 - suc k)) (λ q. omega arith) (lt_of_lt_of_le {m = 2 ^ 53} (omega (arith, f.digits)) (pow_mono {i = 53} (omega arith)))

pub infinite : {x : Float} {s : Bool} {e t : ℕ} → Fields x s e t → e ≡ 2047 → value_of x ≡ not_whole
infinite {x} {s} {e} {t} f h = subst (λ (y : Float). value_of y ≡ not_whole) (ap (λ (n : ℕ). of_fields binary64 s n t) (sym h) ∙ f.is) (ends s t)

-- the value of x is whole, of sign s and size n
pub record Is (x : Float) (s : Bool) (n : ℕ) : Type 0 where
  pub is : value_of x ≡ whole (signed s n)

pub large_value : {x : Float} {s : Bool} {e t : ℕ} → Fields x s e t → 1075 < e → (e ≡ 2047 → ⊥) → Is x s ((2 ^ 52 + t) * 2 ^ (e - 1075))
large_value {e = zero} f p h = absurd (go p)
  where
    go : 1075 < zero → ⊥
    go p = omega arith
large_value {x} {s} {e = suc k} {t} f p h =
    let a = (2 ^ 52 + t) * 2 ^ (suc k - 1075) in
    record { is = value_is x s a 1 (lit< tt) (subst (λ (y : Float). HasValue y s a 1) f.is (large s k t p h)) ∙ simp (mod-one a, div-one a) }

-- past the exponent field 1075 a double is at least 2^53 in size
pub large_size : (t k : ℕ) → 0 < k → 2 ^ 53 ≤ (2 ^ 52 + t) * 2 ^ k
large_size t k h = mul-le-mul {n₁ = 2 ^ 52} {m₁ = 2} (from t) (pow_mono {i = 1} h)
  where
    from : (t : ℕ) → 2 ^ 52 ≤ 2 ^ 52 + t
    from t = omega arith

module _ {x : Float} {s : Bool} {e t : ℕ} (f : Fields x s e t) (p : 0 < e) (h : e ≤ 1075) {one : ℕ} (q : one ≡ 2 ^ (1075 - e)) where
  pub fraction_value : ((2 ^ 52 + t) % one ≡ 0 → ⊥) → value_of x ≡ not_whole
  fraction_value r = between_value f p h q ∙ simp (ne_eqb ((2 ^ 52 + t) % one) 0 r)

  pub whole_value : (2 ^ 52 + t) % one ≡ 0 → Is x s ((2 ^ 52 + t) / one)
  whole_value r = record { is = between_value f p h q ∙ simp (eq-eqb ((2 ^ 52 + t) % one) 0 r) }
