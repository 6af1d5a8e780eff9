-- Seven numbers that 64 bits keep. Assumes nothing.
use Rattle.std.proofs.Common.{refl, ◌∙◌, Bool, true, ◌&&◌, List, [], ◌∷◌, ℕ, zero, suc, zero-le, ◌≤◌, ◌<◌, arith, T, leb, eqb, leb→le, le→leb, eqb→eq, ℤ, pos, nat_abs, length, get_or, set, replicate, length-set}
use Rattle.std.specs.Float.Ieee.Fits.{and_l, and_r}
use Rattle.effects.specs.inner.Sized.{EachAtMost, Seven}

-- ---- seven numbers, each at most so large in size

-- seven zeros, and seven with one set anew
pub seven_zeros : {most : ℕ} → Seven most (replicate 7 (pos 0))
seven_zeros {most} = record { count = refl; each = go 7 }
  where
    go : (n : ℕ) → EachAtMost most (replicate n (pos 0))
    go zero k = omega arith
    go (suc n) zero = omega arith
    go (suc n) (suc k) = go n k

pub seven_set : {most : ℕ} (xs : List ℤ) (i : ℕ) (z : ℤ) → Seven most xs → nat_abs z ≤ most → Seven most (set xs i z)
seven_set {most} xs i z s h = record { count = length-set xs i z ∙ s.count; each = go xs i s.each }
  where
    go : (l : List ℤ) (j : ℕ) → EachAtMost most l → EachAtMost most (set l j z)
    go [] j f k = f k
    go (x ∷ l) zero f zero = h
    go (x ∷ l) zero f (suc k) = f (suc k)
    go (x ∷ l) (suc j) f zero = f 0
    go (x ∷ l) (suc j) f (suc k) = go l j (λ m. f (suc m)) k

-- past its end a list has no large number either
pub each_below : {most : ℕ} (xs : List ℤ) → ((i : ℕ) → i < length xs → nat_abs (get_or xs i (pos 0)) ≤ most) → EachAtMost most xs
each_below [] f i = omega arith
each_below (x ∷ xs) f zero = f 0 (omega arith)
each_below (x ∷ xs) f (suc i) = each_below xs (λ j h. f (suc j) (omega arith)) i

-- ---- the same by a test that computes

-- every element passes a test
abbrev pub every : {A : Type 0} → (A → Bool) → List A → Bool
every p [] = true
every p (x ∷ xs) = p x && every p xs

-- so does the one at an index, and what stands past the end where it passes
pub at : {A : Type 0} (p : A → Bool) (xs : List A) → T (every p xs) → (i : ℕ) (d : A) → (length xs ≤ i → T (p d)) → T (p (get_or xs i d))
at p [] t i d h = h (omega arith)
at p (x ∷ xs) t zero d h = and_l (p x) (every p xs) t
at p (x ∷ xs) t (suc i) d h = at p xs (and_r (p x) (every p xs) t) i d (λ l. h (omega arith))

abbrev pub seven_test : ℕ → List ℤ → Bool
seven_test most xs = eqb (length xs) 7 && every (λ z. leb (nat_abs z) most) xs

pub seven_of_lem : (most : ℕ) (xs : List ℤ) → T (seven_test most xs) → Seven most xs
seven_of_lem most xs t =
    let small : T (every (λ z. leb (nat_abs z) most) xs) = and_r (eqb (length xs) 7) (every (λ z. leb (nat_abs z) most) xs) t in
    record {
      count = eqb→eq (length xs) 7 (and_l (eqb (length xs) 7) (every (λ z. leb (nat_abs z) most) xs) t);
      each = λ k. leb→le (nat_abs (get_or xs k (pos 0))) most (at (λ z. leb (nat_abs z) most) xs small k (pos 0) (λ l. le→leb 0 most zero-le));
    }
