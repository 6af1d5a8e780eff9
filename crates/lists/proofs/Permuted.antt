-- What the order of a list does not change: which elements pass a test, sums, and what holds of each element.
-- Assumes nothing.
use Rattle.std.proofs.Common.{◌≡◌, refl, sym, ◌∙◌, ap, subst, Bool, true, false, cond, ◌||◌, List, ◌∷◌, ℕ, ◌+◌, arith}
use Rattle.std.proofs.Math.Bool.{or_assoc, or_comm}
use mathlib.Core.List.Permᴰ
use Rattle.lists.specs.Lists.{All, none, more, keep, some, total}
use Rattle.lists.specs.theorems.Orders.{Permuted}

module _ {A : Type 0} where
  -- a value is the same where one element more in front, and two exchanged, keep it the same
  pub permuted_same : {B : Type 0} (v : List A → B) → ((x : A) (xs ys : List A) → Permuted xs ys → v xs ≡ v ys → v (x ∷ xs) ≡ v (x ∷ ys))
      → ((x y : A) (xs : List A) → v (x ∷ (y ∷ xs)) ≡ v (y ∷ (x ∷ xs))) → {xs ys : List A} → Permuted xs ys → v xs ≡ v ys
  permuted_same v c s Permᴰ.nil = refl
  permuted_same v c s (Permᴰ.cons {a} {l₁ = xs} {l₂ = ys} e h) = c a xs ys h (permuted_same v c s h) ∙ ap (λ (x : A). v (x ∷ ys)) e
  permuted_same v c s (Permᴰ.swap {a} {b} {l = xs} e d) = rw (← e, ← d) (s a b xs)
  permuted_same v c s (Permᴰ.trans h k) = permuted_same v c s h ∙ permuted_same v c s k

  pub some_permuted : (p : A → Bool) {xs ys : List A} → Permuted xs ys → some p xs ≡ some p ys
  unfolding some
  some_permuted p =
      permuted_same (some p) (λ x xs ys h e. ap (λ (b : Bool). p x || b) e)
      (λ x y xs. sym (or_assoc (p x) (p y) (some p xs)) ∙ (ap (λ (b : Bool). b || some p xs) (or_comm (p x) (p y)) ∙ or_assoc (p y) (p x) (some p xs)))

  pub total_permuted : (f : A → ℕ) {xs ys : List A} → Permuted xs ys → total f xs ≡ total f ys
  unfolding total
  total_permuted f = permuted_same (total f) (λ x xs ys h e. ap (λ (n : ℕ). f x + n) e) (λ x y xs. omega arith)

  -- what passes a test is the same in another order
  pub keep_permuted : (p : A → Bool) {xs ys : List A} → Permuted xs ys → Permuted (keep p xs) (keep p ys)
  unfolding keep
  keep_permuted p Permᴰ.nil = Permᴰ.nil
  keep_permuted p (Permᴰ.cons {a} {l₁ = xs} {l₂ = ys} e h) = rw (← e) (go (p a) (keep_permuted p h))
    where
      go : (b : Bool) → Permuted (keep p xs) (keep p ys) → Permuted (cond b (a ∷ keep p xs) (keep p xs)) (cond b (a ∷ keep p ys) (keep p ys))
      go true q = Permᴰ.cons refl q
      go false q = q
  keep_permuted p (Permᴰ.swap {a = x} {b = y} {l = xs} e d) = rw (← e, ← d) (go (p x) (p y) (keep p xs))
    where
      go : (a b : Bool) (ks : List A) → Permuted (cond a (x ∷ cond b (y ∷ ks) ks) (cond b (y ∷ ks) ks)) (cond b (y ∷ cond a (x ∷ ks) ks) (cond a (x ∷ ks) ks))
      go true true ks = Permᴰ.swap refl refl
      go true false ks = Permᴰ.refl (x ∷ ks)
      go false true ks = Permᴰ.refl (y ∷ ks)
      go false false ks = Permᴰ.refl ks
  keep_permuted p (Permᴰ.trans h k) = Permᴰ.trans (keep_permuted p h) (keep_permuted p k)

  -- what holds of each element holds of each in another order
  pub all_permuted : {P : A → Type 0} {xs ys : List A} → Permuted xs ys → All P xs → All P ys
  all_permuted Permᴰ.nil none = none
  all_permuted {P} (Permᴰ.cons e h) (more q a) = more (subst P e q) (all_permuted h a)
  all_permuted {P} (Permᴰ.swap e d) (more q (more r a)) = more (subst P d r) (more (subst P e q) a)
  all_permuted (Permᴰ.trans h k) a = all_permuted k (all_permuted h a)
