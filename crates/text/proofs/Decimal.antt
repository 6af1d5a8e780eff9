-- The digits of a number: the last, those before it, and how many there are.
-- Assumes nothing.
use Rattle.std.proofs.Common.{◌≡◌, refl, ◌∙◌, ap, Bool, true, false, List, [], ◌∷◌, ◌++◌, ℕ, zero, suc, ◌+◌, ◌/◌, ◌%◌, ◌^◌, ◌≤◌, ◌<◌, div-lt_iff_lt-mul, pow-suc, arith, ltb, length, length-append, lt-ltb, le-ltb, ltb-true, ltb-false}
use Rattle.text.specs.Text.{last_digit, digits_in, decimal}

-- room for more digits than a number has changes nothing
enough : (k j n : ℕ) → n ≤ k → n ≤ j → digits_in k n ≡ digits_in j n
unfolding digits_in last_digit
enough zero zero n h g = refl
enough zero (suc j) n h g = let z : n ≡ 0 = omega arith in rw z
enough (suc k) zero n h g = let z : n ≡ 0 = omega arith in rw z
enough (suc k) (suc j) n h g = go (ltb n 10) refl (λ t. enough k j (n / 10) (omega arith) (omega arith))
  where
    go : (b : Bool) → ltb n 10 ≡ b → (10 ≤ n → digits_in k (n / 10) ≡ digits_in j (n / 10))
        → last_digit b (digits_in k) n ≡ last_digit b (digits_in j) n
    go true e f = refl
    go false e f = ap (λ (l : List ℕ). l ++ ((48 + n % 10) ∷ [])) (f (ltb-false n 10 e))

small : (k n : ℕ) → n < 10 → digits_in k n ≡ (48 + n) ∷ []
unfolding digits_in last_digit
small zero n h = let z : n % 10 ≡ n = omega arith in rw z
small (suc k) n h = rw (lt-ltb n 10 h)

-- a number below 10 is one digit
pub decimal_small : (n : ℕ) → n < 10 → decimal n ≡ (48 + n) ∷ []
unfolding decimal
decimal_small n h = small n n h

more : (k n : ℕ) → 10 ≤ n → n ≤ suc k → digits_in (suc k) n ≡ digits_in (n / 10) (n / 10) ++ ((48 + n % 10) ∷ [])
unfolding digits_in last_digit
more k n h m =
    rw (le-ltb n 10 h) (ap (λ (l : List ℕ). l ++ ((48 + n % 10) ∷ [])) (enough k (n / 10) (n / 10) (omega arith) (omega arith)))

-- from 10 on, the digits of a tenth and then the last
pub decimal_more : (n : ℕ) → 10 ≤ n → decimal n ≡ decimal (n / 10) ++ ((48 + n % 10) ∷ [])
unfolding decimal
decimal_more zero h = absurd (omega arith)
decimal_more (suc k) h = more k (suc k) h (omega arith)

pub length_small : (n : ℕ) → n < 10 → length (decimal n) ≡ 1
length_small n h = ap length (decimal_small n h)

pub length_more : (n : ℕ) → 10 ≤ n → length (decimal n) ≡ length (decimal (n / 10)) + 1
length_more n h = ap length (decimal_more n h) ∙ length-append (decimal (n / 10)) _

-- a tenth of a number below 10 ^ (k + 1) is below 10 ^ k
pub tenth : (k n : ℕ) → n < 10 ^ suc k → n / 10 < 10 ^ k
tenth k n h = (div-lt_iff_lt-mul {k = 10} (omega arith)).1 (rw (pow-suc 10 k) at h)

-- a number below 10 ^ k has at most k digits, for k of 1 or more
pub length_most : (k n : ℕ) → n < 10 ^ suc k → length (decimal n) ≤ suc k
length_most zero n h = omega (arith, length_small n h)
length_most (suc k) n h = go (ltb n 10) refl (length_most k (n / 10) (tenth (suc k) n h))
  where
    go : (b : Bool) → ltb n 10 ≡ b → length (decimal (n / 10)) ≤ suc k → length (decimal n) ≤ suc (suc k)
    go true e f = omega (arith, length_small n (ltb-true n 10 e))
    go false e f = omega (arith, length_more n (ltb-false n 10 e), f)

-- a number has a digit
pub length_some : (n : ℕ) → 0 < length (decimal n)
length_some n = go (ltb n 10) refl
  where
    go : (b : Bool) → ltb n 10 ≡ b → 0 < length (decimal n)
    go true e = omega (arith, length_small n (ltb-true n 10 e))
    go false e = omega (arith, length_more n (ltb-false n 10 e))

all_in : (P : List ℕ → Type 0) → ((d : ℕ) → P ((48 + d) ∷ [])) → ((a : List ℕ) (d : ℕ) → P a → P (a ++ ((48 + d) ∷ [])))
    → (k n : ℕ) → P (digits_in k n)
unfolding digits_in last_digit
all_in P one more zero n = one (n % 10)
all_in P one more (suc k) n = go (ltb n 10) (all_in P one more k (n / 10))
  where
    go : (b : Bool) → P (digits_in k (n / 10)) → P (last_digit b (digits_in k) n)
    go true h = one n
    go false h = more (digits_in k (n / 10)) (n % 10) h

-- what holds of one digit, and with one digit more, holds of a number's digits
pub decimal_all : (P : List ℕ → Type 0) → ((d : ℕ) → P ((48 + d) ∷ [])) → ((a : List ℕ) (d : ℕ) → P a → P (a ++ ((48 + d) ∷ [])))
    → (n : ℕ) → P (decimal n)
unfolding decimal
decimal_all P one more n = all_in P one more n n
