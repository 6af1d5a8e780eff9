-- The check of the seven effects, one step over any of them. Assumes nothing.
use Rattle.std.proofs.Common.{◌≡◌, refl, subst, List, [], ◌∷◌, ◌++◌, ℕ, zero, suc, ◌+◌, ◌<◌, ◌≤◌, le_trans, arith, lit≤, ℤ, nat_abs, Float, length, length-append, take, drop, get_or, set, add-one, take_all, drop-cons, take-suc-set, drop_of_length-le}
use Rattle.std.proofs.lemmas.List.{drop_more}
use Rattle.std.specs.Float.Ieee.{binary64, of_int}
use Rattle.effects.specs.declared.PerLoad.{PerLoad}
use Rattle.effects.specs.declared.LoadEffect.{LoadEffect}
use Rattle.std.specs.Prelude.{Ok, Err}
use Rattle.refusal.specs.declared.Refused.{Refused}
use Rattle.refusal.specs.Refusal.{number_of}
use Rattle.refusal.specs.Said.{Told, gives, refused, told}
use Rattle.newtons.specs.Effect.{limit, effect_of}
use Rattle.effects.specs.Check.{load_effect, listed, newtons_of, if_given, checked_from, checked_of}
use Rattle.effects.specs.theorems.Doubles.{doubles_of}
use Rattle.effects.specs.inner.Sized.{EachAtMost, Sized, Seven}
use Rattle.newtons.proofs.Values.{value_back}
use Rattle.newtons.proofs.Limits.{effect_whole, effect_within}

pub listed_length : (e : PerLoad Float) → length (listed e) ≡ 7
unfolding listed
listed_length e = refl

-- ---- a step: the effect at an index is taken, and the rest checked, or it is refused

module _ {L : Type 0} (taken : List ℤ) (es : List (LoadEffect L)) (i : ℕ) (d : LoadEffect L) (h : i < length es) where
  abbrev e : LoadEffect L
  e = get_or es i d

  pub goes_on : (z : ℤ) → told (Ok z) ≡ if_given e (effect_of e.double) (λ y. gives y) → checked_from (taken ++ (z ∷ [])) (drop (i + 1) es) ≡ checked_from taken (drop i es)
  unfolding told checked_from if_given
  goes_on z k = rw (drop_more es i d h) (go (effect_of e.double) k)
    where
      go : (f : Told Float ℤ) → gives z ≡ if_given e f (λ y. gives y) → checked_from (taken ++ (z ∷ [])) (drop (i + 1) es) ≡ if_given e f (λ y. checked_from (taken ++ (y ∷ [])) (drop (i + 1) es))
      go (gives y) k = let q : y ≡ z = cc in rw q
      go (refused n x) k = cc

  pub ends : (r : Refused (LoadEffect L)) → told {A = ℤ} (Err r) ≡ if_given e (effect_of e.double) (λ y. gives y) → told (Err r) ≡ checked_from taken (drop i es)
  unfolding told checked_from if_given
  ends r k = rw (drop_more es i d h) (go (effect_of e.double) k)
    where
      go : (f : Told Float ℤ) → told {A = ℤ} (Err r) ≡ if_given e f (λ y. gives y) → told (Err r) ≡ if_given e f (λ y. checked_from (taken ++ (y ∷ [])) (drop (i + 1) es))
      go (gives y) k = cc
      go (refused n x) k =
          let p : number_of r.refusal ≡ n = cc in
          let q : r.back ≡ load_effect e.load x = cc in
          rw (p, q)

-- ---- a step beside numbers that are all there: the effect at an index is taken or refused

module _ {L : Type 0} (es : List (LoadEffect L)) (i : ℕ) (d : LoadEffect L) (h : i < length es) where
  pub check_taken : (whole : List ℤ) {z : ℤ} → i < length whole → effect_of (get_or es i d).double ≡ gives z
      → checked_from (take i whole) (drop i es) ≡ checked_from (take (i + 1) (set whole i z)) (drop (i + 1) es)
  unfolding checked_from if_given
  check_taken whole {z} k e = rw (drop-cons es i d h, e, add-one i, take-suc-set whole i z k)

  pub check_refused : (taken : List ℤ) {n : ℕ} {x : Float} → effect_of (get_or es i d).double ≡ refused n x
      → checked_from taken (drop i es) ≡ refused n (load_effect (get_or es i d).load x)
  unfolding checked_from if_given
  check_refused taken e = rw (drop-cons es i d h, e)

-- past the last all are taken
pub check_end : {L : Type 0} (whole : List ℤ) (es : List (LoadEffect L)) (i : ℕ) → length whole ≤ i → length es ≤ i → checked_from (take i whole) (drop i es) ≡ gives whole
unfolding checked_from
check_end whole es i h k = rw (take_all i whole h, drop_of_length-le es {i = i} k)

-- ---- the whole numbers taken are within the limit

more_within : (xs : List ℤ) (z : ℤ) → EachAtMost limit xs → nat_abs z ≤ limit → EachAtMost limit (xs ++ (z ∷ []))
more_within [] z f h zero = h
more_within [] z f h (suc k) = f k
more_within (x ∷ xs) z f h zero = f 0
more_within (x ∷ xs) z f h (suc k) = more_within xs z (λ m. f (suc m)) h k

-- as many as were taken before and are listed, each within the limit
pub all_kept : {L : Type 0} (taken : List ℤ) (es : List (LoadEffect L)) {xs : List ℤ} → EachAtMost limit taken → checked_from taken es ≡ gives xs → Sized (length taken + length es) limit xs
unfolding checked_from if_given
all_kept taken [] {xs} f e =
    let q : taken ≡ xs = cc in
    subst (Sized (length taken + 0) limit) q (record { count = omega arith; each = f })
all_kept taken (l ∷ es) {xs} f e =
    go (effect_of l.double) (effect_within l.double) (λ z w p. all_kept (taken ++ (z ∷ [])) es (more_within taken z f w) p) e
  where
    go : (t : Told Float ℤ) → ((z : ℤ) → t ≡ gives z → nat_abs z ≤ limit)
        → ((z : ℤ) → nat_abs z ≤ limit → checked_from (taken ++ (z ∷ [])) es ≡ gives xs → Sized (length (taken ++ (z ∷ [])) + length es) limit xs)
        → if_given l t (λ z. checked_from (taken ++ (z ∷ [])) es) ≡ gives xs → Sized (length taken + suc (length es)) limit xs
    go (gives z) w rest p =
        let n : length (taken ++ (z ∷ [])) + length es ≡ length taken + suc (length es) = omega (arith, length-append taken (z ∷ [])) in
        subst (λ (m : ℕ). Sized m limit xs) n (rest z (w z refl) p)
    go (refused n x) w rest p = let z : ◌≡◌ {A = ℕ} 0 1 = cc in omega arith

pub checked_seven : (e : PerLoad Float) {xs : List ℤ} → checked_of e ≡ gives xs → Seven limit xs
unfolding checked_of listed
checked_seven e h = all_kept [] (listed e) (λ i. omega arith) h

-- whole newtons within the limit, handed over as a double, are taken as they are; so are all seven
pub double_taken : (z : ℤ) → nat_abs z ≤ limit → effect_of (of_int binary64 z) ≡ gives z
double_taken z h = effect_whole (of_int binary64 z) (value_back z (le_trans h (lit≤ tt))) h

pub doubles_taken : (n : PerLoad ℤ) → Seven limit (newtons_of n) → checked_of (doubles_of n) ≡ gives (newtons_of n)
unfolding checked_of checked_from if_given listed newtons_of doubles_of
doubles_taken n s =
    rw (
      double_taken n.dead (s.each 0),
      double_taken n.live (s.each 1),
      double_taken n.roof (s.each 2),
      double_taken n.snow (s.each 3),
      double_taken n.rain (s.each 4),
      double_taken n.wind (s.each 5),
      double_taken n.quake (s.each 6),
    )
