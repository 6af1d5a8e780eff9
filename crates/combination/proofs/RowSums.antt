-- The sizes of products and sums of whole numbers, and the sum of a row. Assumes nothing.
use Rattle.std.proofs.Common.{◌≡◌, refl, sym, subst, Bool, true, false, cond, ◌⊎◌, ⊎_elim, List, [], ◌∷◌, ℕ, suc, ◌+◌, ◌-◌, ◌*◌, ◌≤◌, ◌<◌, le_refl, lt_of_le_of_lt, mul-le-mul, arith, T, ltb, ltb→lt, lit<, ℤ, pos, negsuc, nat_abs, ◌+ℤ◌, ◌*ℤ◌, length, length-drop, get_or, get_or-drop, drop, drop-cons, drop_of_length-le, w8, to_z, of_z}
use Rattle.std.proofs.Math.IntN.{sub_ℕ}
use Rattle.std.proofs.lemmas.Int.{to_z-of_z}
use Rattle.newtons.specs.Effect.{limit}
use Rattle.effects.specs.inner.Sized.{EachAtMost, Seven}
use Rattle.newtons.proofs.Word.{size_neg, mag_le}
use Rattle.combination.specs.Governing.{sum_of}

-- no product of a factor and an effect is above 16 times the limit, and no sum of seven above seven times that
abbrev pub most_product : ℕ
most_product = 16 * limit

abbrev pub most_sum : ℕ
most_sum = 7 * most_product

-- eight bits keep a factor
pub factor_kept : {z : ℤ} → nat_abs z ≤ 16 → to_z w8 (of_z w8 z) ≡ z
factor_kept {z} h = to_z-of_z w8 z (record { sfits = lt_of_le_of_lt (mag_le z) (lt_of_le_of_lt h (lit< tt)) })

-- ---- the size of a sum and of a product

size_sub : (a b : ℕ) → nat_abs (sub_ℕ a b) ≤ a + b
size_sub a b = go (ltb a b) (ltb→lt a b)
  where
    go : (t : Bool) → (T t → a < b) → nat_abs (cond t (negsuc (b - suc a)) (pos (a - b))) ≤ a + b
    go true h = let p = h tt in omega arith
    go false h = omega arith

pub size_add : (a b : ℤ) → nat_abs (a +ℤ b) ≤ nat_abs a + nat_abs b
size_add (pos a) (pos b) = le_refl (a + b)
size_add (pos a) (negsuc b) = size_sub a (suc b)
size_add (negsuc a) (pos b) = let h = size_sub b (suc a) in omega arith
size_add (negsuc a) (negsuc b) = omega arith

size_mul : (a b : ℤ) → nat_abs (a *ℤ b) ≡ nat_abs a * nat_abs b
size_mul (pos a) (pos b) = refl
size_mul (pos a) (negsuc b) = size_neg (a * suc b)
size_mul (negsuc a) (pos b) = size_neg (suc a * b)
size_mul (negsuc a) (negsuc b) = refl

pub size_product : (f x : ℤ) {p q : ℕ} → nat_abs f ≤ p → nat_abs x ≤ q → nat_abs (f *ℤ x) ≤ p * q
size_product f x {p} {q} h k = subst (λ (n : ℕ). n ≤ p * q) (sym (size_mul f x)) (mul-le-mul h k)

-- ---- the sum of a row

sum_size : (fs xs : List ℤ) → EachAtMost 16 fs → EachAtMost limit xs → nat_abs (sum_of fs xs) ≤ most_product * length fs
unfolding sum_of
sum_size [] xs F X = omega arith
sum_size (f ∷ fs) [] F X = omega arith
sum_size (f ∷ fs) (x ∷ xs) F X =
    omega (arith, size_add (f *ℤ x) (sum_of fs xs), size_product f x (F 0) (X 0), sum_size fs xs (λ i. F (suc i)) (λ i. X (suc i)))

pub sum_small : (fs xs : List ℤ) → Seven 16 fs → Seven limit xs → (j : ℕ) → nat_abs (sum_of (drop j fs) (drop j xs)) ≤ most_sum
sum_small fs xs F X j =
    omega (
      arith,
      length-drop j fs,
      F.count,
      sum_size (drop j fs) (drop j xs)
          (λ i. subst (λ (z : ℤ). nat_abs z ≤ 16) (sym (get_or-drop j fs i (pos 0))) (F.each (j + i)))
          (λ i. subst (λ (z : ℤ). nat_abs z ≤ limit) (sym (get_or-drop j xs i (pos 0))) (X.each (j + i))),
    )

-- from an index on: the index's product and the rest
pub sum_from : (j : ℕ) (fs xs : List ℤ) → j < length fs → j < length xs
    → sum_of (drop j fs) (drop j xs) ≡ get_or fs j (pos 0) *ℤ get_or xs j (pos 0) +ℤ sum_of (drop (suc j) fs) (drop (suc j) xs)
unfolding sum_of
sum_from j fs xs h k = rw (drop-cons fs j (pos 0) h, drop-cons xs j (pos 0) k)

pub sum_end : (fs xs : List ℤ) → length fs ≡ 7 → sum_of (drop 7 fs) (drop 7 xs) ≡ pos 0
unfolding sum_of
sum_end fs xs h = rw (drop_of_length-le fs {i = 7} (omega arith))

-- where there is no factor or no effect left
pub sum_none : (fs xs : List ℤ) → (length fs ≡ 0) ⊎ (length xs ≡ 0) → sum_of fs xs ≡ pos 0
unfolding sum_of
sum_none [] xs h = refl
sum_none (f ∷ fs) [] h = refl
sum_none (f ∷ fs) (x ∷ xs) h = absurd (⊎_elim (λ e. omega arith) (λ e. omega arith) h)
