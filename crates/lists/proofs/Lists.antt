-- Laws of choices and sums over a list, and of what holds of each element.
-- Assumes nothing.
use Rattle.std.proofs.Common.{◌≡◌, refl, ap, Bool, true, false, cond, List, [], ◌∷◌, ◌++◌, ℕ, zero, suc, ◌+◌, ◌*◌, ◌≤◌, zero-add, mul-suc, arith, length, get_or, set, replicate}
use Rattle.lists.specs.Lists.{All, none, more, keep, total}

module _ {A : Type 0} where
  -- an element that passes the test is kept
  pub keep_passed : (p : A → Bool) (x : A) (xs : List A) → p x ≡ true → keep p (x ∷ xs) ≡ x ∷ keep p xs
  unfolding keep
  keep_passed p x xs e = rw e

  -- an element that fails the test is not kept
  pub keep_failed : (p : A → Bool) (x : A) (xs : List A) → p x ≡ false → keep p (x ∷ xs) ≡ keep p xs
  unfolding keep
  keep_failed p x xs e = rw e

  -- no more are kept than there are
  pub keep_length : (p : A → Bool) (xs : List A) → length (keep p xs) ≤ length xs
  unfolding keep
  keep_length p [] = omega arith
  keep_length p (x ∷ xs) = go (p x) (keep_length p xs)
    where
      go : (b : Bool) → length (keep p xs) ≤ length xs → length (cond b (x ∷ keep p xs) (keep p xs)) ≤ suc (length xs)
      go true h = omega arith
      go false h = omega arith

  -- the sum over what is kept has each element's number, or 0
  pub total_keep : (f : A → ℕ) (p : A → Bool) (x : A) (xs : List A) → total f (keep p (x ∷ xs)) ≡ cond (p x) (f x) 0 + total f (keep p xs)
  unfolding keep total
  total_keep f p x xs = go (p x)
    where
      go : (b : Bool) → total f (cond b (x ∷ keep p xs) (keep p xs)) ≡ cond b (f x) 0 + total f (keep p xs)
      go true = refl
      go false = rw (zero-add (total f (keep p xs)))

  keep_go : {P : A → Type 0} {xs : List A} (x : A) (b : Bool) → P x → All P xs → All P (cond b (x ∷ xs) xs)
  keep_go x true q h = more q h
  keep_go x false q h = h

  -- what holds of each element holds of each that is kept
  pub all_keep : {P : A → Type 0} {xs : List A} (p : A → Bool) → All P xs → All P (keep p xs)
  unfolding keep
  all_keep p none = none
  all_keep p (more {x} q h) = keep_go x (p x) q (all_keep p h)

  -- what holds of each element holds of the first, and of the others
  pub all_rest : {P : A → Type 0} {x : A} {xs : List A} → All P (x ∷ xs) → All P xs
  all_rest (more q h) = h

  pub all_first : {P : A → Type 0} {x : A} {xs : List A} → All P (x ∷ xs) → P x
  all_first (more q h) = q

  -- where the number of each is at most k, the sum is at most k times as many
  pub total_most : {P : A → Type 0} (f : A → ℕ) (k : ℕ) → ((x : A) → P x → f x ≤ k) → {xs : List A} → All P xs → total f xs ≤ k * length xs
  unfolding total
  total_most f k h none = omega arith
  total_most f k h (more {x} {xs} q a) = rw (mul-suc k (length xs)) (omega (arith, h x q, total_most f k h a))

  -- a sum over two lists is that of the first and that of the second
  pub total_append : (f : A → ℕ) (xs ys : List A) → total f (xs ++ ys) ≡ total f xs + total f ys
  unfolding total
  total_append f [] ys = rw (zero-add (total f ys))
  total_append f (x ∷ xs) ys = omega (arith, total_append f xs ys)

  -- what holds of each element of two lists holds of each of the first
  pub all_front : {P : A → Type 0} (xs ys : List A) → All P (xs ++ ys) → All P xs
  all_front [] ys h = none
  all_front (x ∷ xs) ys h = more (all_first h) (all_front xs ys (all_rest h))

  -- and of the second
  pub all_back : {P : A → Type 0} (xs : List A) {ys : List A} → All P (xs ++ ys) → All P ys
  all_back [] h = h
  all_back (x ∷ xs) h = all_back xs (all_rest h)

  -- and what holds of each of both holds of each
  pub all_append : {P : A → Type 0} {xs ys : List A} → All P xs → All P ys → All P (xs ++ ys)
  all_append none k = k
  all_append (more q h) k = more q (all_append h k)

  -- what holds of each element holds of each with one more
  pub all_more : {P : A → Type 0} {xs : List A} {x : A} → All P xs → P x → All P (xs ++ (x ∷ []))
  all_more none p = more p none
  all_more (more q h) p = more q (all_more h p)

  -- and of each with that one at a place
  pub all_set : {P : A → Type 0} {xs : List A} (k : ℕ) (x : A) → P x → All P xs → All P (set xs k x)
  all_set k x p none = none
  all_set zero x p (more q h) = more p h
  all_set (suc k) x p (more q h) = more q (all_set k x p h)

  -- what holds of one element holds of each of a list of it
  pub all_same : {P : A → Type 0} (x : A) → P x → (n : ℕ) → All P (replicate n x)
  all_same x p zero = none
  all_same x p (suc n) = more p (all_same x p n)

  -- what holds of each element, and of what is given where there is none, holds at each place
  pub all_at : {P : A → Type 0} {xs : List A} (x : A) → P x → All P xs → (k : ℕ) → P (get_or xs k x)
  all_at x p none k = p
  all_at x p (more q h) zero = q
  all_at x p (more q h) (suc k) = all_at x p h k

  -- the list of what a function has at the places from 0 on, so many
  abbrev pub places : ℕ → (ℕ → A) → List A
  places zero f = []
  places (suc n) f = f 0 ∷ places n (λ k. f (suc k))

  -- a list is that of its elements at their places
  pub by_places : (n : ℕ) (xs : List A) (x : A) → length xs ≡ n → xs ≡ places n (λ k. get_or xs k x)
  by_places zero [] x h = refl
  by_places zero (y ∷ xs) x h = absurd (omega arith)
  by_places (suc n) [] x h = absurd (omega arith)
  by_places (suc n) (y ∷ xs) x h = ap (λ (l : List A). y ∷ l) (by_places n xs x (omega arith))

  -- what follows for each element holds of each
  pub all_so : {P Q : A → Type 0} → ((x : A) → P x → Q x) → {xs : List A} → All P xs → All Q xs
  all_so f none = none
  all_so f (more {x} q h) = more (f x q) (all_so f h)
