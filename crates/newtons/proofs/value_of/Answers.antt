-- `newtons::value_of` meets its contract: each way out is one law of values, at the fields of the bits. Assumes nothing.
use Rattle.std.proofs.Common.{◌≡◌, sym, ◌∙◌, ap, subst, true, false, ℕ, zero, suc, ◌+◌, ◌-◌, ◌*◌, ◌/◌, ◌%◌, ◌^◌, ◌≤◌, ◌<◌, one-mul, div-le_self, lt_of_le_of_lt, lt_of_lt_of_le, arith, leb, lit<, lit≤, pow_pos, shl_exact, ℤ, pos, neg_ℤ, ◌-ℤ◌, Float, to_bits, w64, SFits, to_z, rules, le-leb}
use Rattle.std.proofs.Math.IntN.{+ℤ_idl}
use Rattle.std.specs.Float.Ieee.{binary64}
use Rattle.std.specs.Prelude.{Some}
use Rattle.std.proofs.lemmas.Int.{to_z-of_z, to_z_pos}
use Rattle.std.proofs.lemmas.Bool.{lt-leb}
use Rattle.refusal.specs.Refusal.{number_of}
use Rattle.refusal.specs.Said.{gives, said}
use Rattle.newtons.specs.Effect.{signed}
use Rattle.newtons.proofs.Values.{Is, Fields, fields_of, nan_value, zero_value, below_one, infinite, large_value, large_size, fraction_value, whole_value}
use Rattle.newtons.proofs.Limits.{held_none, held_large, held_whole, held_signed}
use Rattle.newtons.proofs.value_of.Goals as goal
use Rattle.newtons.proofs.value_of.Goals.{Else-is_large, Else-has_fraction}

abbrev bits : Float → ℕ
bits x = to_bits binary64 x

-- the code's 1 << k
one-is : (k : ℕ) → k < 64 → 1 * 2 ^ k % 2 ^ 64 ≡ 2 ^ k
one-is k h = shl_exact 1 k 64 (lit< tt) (omega arith) ∙ one-mul (2 ^ k)

one-positive : (k : ℕ) → k < 64 → 0 < 1 * 2 ^ k % 2 ^ 64
one-positive k h = rw one-is (pow_pos k)

-- both fields are 0 only where the bits but the sign are
not_zero : (b : ℕ) → (b % 2 ^ 63 ≡ 0 → ⊥) → b % 2 ^ 63 / 2 ^ 52 ≡ 0 → b % 2 ^ 52 ≡ 0 → ⊥
not_zero b h p q = h (go b p q)
  where
    go : (b : ℕ) → b % 2 ^ 63 / 2 ^ 52 ≡ 0 → b % 2 ^ 52 ≡ 0 → b % 2 ^ 63 ≡ 0
    go b p q = omega arith

-- a size below 2^53 as a signed number
positive-is : (n : ℕ) → n < 2 ^ 53 → to_z w64 n ≡ pos n
positive-is n h = to_z_pos w64 n (lt_of_lt_of_le h (lit≤ tt))

negative-is : (n : ℕ) → n < 2 ^ 53 → pos 0 -ℤ to_z w64 n ≡ neg_ℤ (pos n)
negative-is n h = ap (λ (z : ℤ). pos 0 -ℤ z) (positive-is n h) ∙ +ℤ_idl (neg_ℤ (pos n))

negative_fits : (n : ℕ) → n < 2 ^ 53 → SFits w64 (pos 0 -ℤ to_z w64 n)
negative_fits n h = subst (λ (z : ℤ). SFits w64 z) (sym (negative-is n h)) (go n h)
  where
    go : (n : ℕ) → n < 2 ^ 53 → SFits w64 (neg_ℤ (pos n))
    go zero h = record { sfits = lit< tt }
    go (suc n) h = record { sfits = omega (arith, h) }

pub returns-then-is_nan : goal.returns-then-is_nan
unfolding said number_of
returns-then-is_nan c = sym (held_none (nan_value c.args.x (sym c.is_nan.ensures.value ∙ c.if-is_nan.true)))

pub returns-then-is_zero : goal.returns-then-is_zero
unfolding said
returns-then-is_zero c =
    sym (held_whole (zero_value (fields_of c.args.x (search rules)) (omega (arith, c.if-is_zero.true)) (omega (arith, c.if-is_zero.true))) (lit< tt))

pub returns-then-exponent-lt1023 : goal.returns-then-exponent-lt1023
unfolding said number_of
returns-then-exponent-lt1023 c =
    sym (held_none (below_one (fields_of c.args.x (search rules)) (not_zero (bits c.args.x) c.if-is_zero.false) c.if-exponent-lt1023.true))

pub returns-then-exponent-eq-INFINITE : goal.returns-then-exponent-eq-INFINITE
unfolding said number_of
returns-then-exponent-eq-INFINITE c = sym (held_none (infinite (fields_of c.args.x (search rules)) c.if-exponent-eq-INFINITE.true))

pub returns-then-is_large : goal.returns-then-is_large
unfolding said
returns-then-is_large c =
    sym (held_large (large_value (fields_of c.args.x (search rules)) c.if-is_large.true c.if-exponent-eq-INFINITE.false) (large_size _ _ (omega (arith, c.if-is_large.true))))

pub nonzero_rem-has_fraction : goal.nonzero_rem-has_fraction
nonzero_rem-has_fraction c = one-positive _ (omega arith)

-- past the tests of the exponent
module _ (c : Else-is_large) where
  abbrev x : Float
  x = c.args.x

  abbrev exponent : ℕ
  exponent = bits x % 2 ^ 63 / 2 ^ 52

  fields : Fields x (leb (2 ^ 63) (bits x)) exponent (bits x % 2 ^ 52)
  fields = fields_of x (search rules)

  above : 0 < exponent
  above = omega (arith, c.if-exponent-lt1023.false)

  upto : exponent ≤ 1075
  upto = c.if-is_large.false

  one : 1 * 2 ^ (1075 - exponent) % 2 ^ 64 ≡ 2 ^ (1075 - exponent)
  one = one-is (1075 - exponent) (omega (arith, c.if-exponent-lt1023.false))

pub returns-then-has_fraction : goal.returns-then-has_fraction
unfolding said number_of
returns-then-has_fraction c =
    let t = (goal.at.returns-then-has_fraction c).Else-is_large in
    sym (held_none (fraction_value (fields t) (above t) (upto t) (one t) (λ q. omega (arith, c.if-has_fraction.true))))

-- the size is whole, and below 2^53
module _ (c : Else-has_fraction) where
  abbrev size : ℕ
  size = (2 ^ 52 + bits c.args.x % 2 ^ 52) / (1 * 2 ^ (1075 - exponent c.before) % 2 ^ 64)

  is : Is c.args.x (leb (2 ^ 63) (bits c.args.x)) size
  is = whole_value (fields c.before) (above c.before) (upto c.before) (one c.before) (omega (arith, c.if-has_fraction.false))

  small : size < 2 ^ 53
  small = lt_of_le_of_lt (div-le_self (2 ^ 52 + bits c.args.x % 2 ^ 52) _) (omega arith)

  size_fits : SFits w64 (pos size)
  size_fits = record { sfits = lt_of_lt_of_le small (lit≤ tt) }

pub nonzero_div-size : goal.nonzero_div-size
nonzero_div-size c = one-positive _ (omega arith)

pub overflow_cast-result : goal.overflow_cast-result
overflow_cast-result c = size_fits (goal.at.overflow_cast-result c).Else-has_fraction

pub overflow_sub-result : goal.overflow_sub-result
overflow_sub-result c = negative_fits _ (small (goal.at.overflow_sub-result c).Else-has_fraction)

pub returns-then-is_negative : goal.returns-then-is_negative
unfolding signed said
returns-then-is_negative c =
    let t = (goal.at.returns-then-is_negative c).Else-has_fraction in
    let l = small t in
    ap (λ (z : ℤ). gives (Some z)) (to_z-of_z w64 _ (negative_fits _ l) ∙ negative-is _ l) ∙ sym (held_signed (is t) l true (le-leb _ _ c.if-is_negative.true))

pub overflow_cast-result-2 : goal.overflow_cast-result-2
overflow_cast-result-2 c = size_fits (goal.at.overflow_cast-result-2 c).Else-has_fraction

pub returns : goal.returns
unfolding signed said
returns c =
    let t = (goal.at.returns c).Else-has_fraction in
    let l = small t in
    ap (λ (z : ℤ). gives (Some z)) (positive-is _ l) ∙ sym (held_signed (is t) l false (lt-leb _ _ c.if-is_negative.false))
