-- What holds of every answer: the doubles keep their sums, the rows govern, and the first beyond the limit is named. Assumes nothing.
use Rattle.std.proofs.Common.{◌≡◌, refl, ◌∙◌, ap, Bool, true, false, not, cond, List, [], ◌∷◌, ℕ, zero, suc, ◌^◌, ◌≤◌, ◌<◌, le_trans, arith, lit≤, ℤ, pos, nat_abs, Float, length, get_or, le-leb, leb-true}
use Rattle.std.proofs.Math.Path.{subst⁻¹}
use Rattle.std.specs.Prelude.{map, Option, Some, None}
use Rattle.std.specs.List.{find}
use Rattle.effects.specs.declared.Load.{Load}
use Rattle.effects.specs.declared.PerLoad.{PerLoad}
use Rattle.effects.specs.declared.LoadEffect.{LoadEffect}
use Rattle.refusal.specs.Said.{Told, gives, refused}
use Rattle.newtons.specs.Effect.{limit, within}
use Rattle.effects.specs.Check.{loads, of_load, newtons_of, checked_of}
use Rattle.effects.specs.theorems.Doubles.{doubles_of}
use Rattle.effects.specs.inner.Sized.{EachAtMost, Seven}
use Rattle.combination.specs.declared.Governing.{Governing}
use Rattle.combination.specs.Governing.{sums, best}
use Rattle.combination.specs.Combine.{row_of, governing_of, governing, limited_from, governed, with_double, combined, combined_of, Exact, NothingLost}
use Rattle.combination.specs.theorems.Governs.{RowsGovern}
use Rattle.newtons.proofs.Values.{value_back}
use Rattle.effects.proofs.Checks.{checked_seven, doubles_taken}
use Rattle.combination.proofs.Table.{sums_some, sums_small}
use Rattle.combination.proofs.Governs.{Order, less_order, greater_order, best_governs, best_small}

-- the rows that govern have the greatest and the least sum, the lowest row where sums are equal
pub lists_govern : (high low : List ℤ) → 0 < length high → 0 < length low → RowsGovern high low (governing_of high low)
lists_govern high low h l = record { greatest = best_governs greater_order high h; least = best_governs less_order low l }

pub rows_govern : (xs : List ℤ) → RowsGovern (sums xs) (sums xs) (governing xs)
unfolding governing
rows_govern xs = lists_govern (sums xs) (sums xs) (sums_some xs) (sums_some xs)

-- the best of sums that a double holds is one too
pub best_held : {beats : ℤ → ℤ → Bool} → Order beats → (xs : List ℤ) → Seven limit xs → nat_abs (best beats (sums xs)).tenths ≤ 2 ^ 53
best_held o xs X = le_trans (best_small o (sums xs) (sums_some xs) (sums_small xs X)) (lit≤ tt)

-- a sum within what a double holds goes out as it is
exact : {beats : ℤ → ℤ → Bool} → Order beats → (xs : List ℤ) → Seven limit xs → Exact (row_of (best beats (sums xs)))
exact o xs X = record { is = value_back _ (best_held o xs X) }

-- so both do, whatever else the answer may be
pub rows_exact : (Back : Type 0) (xs : List ℤ) → Seven limit xs → NothingLost {Back = Back} (gives (governing xs))
unfolding governing NothingLost
rows_exact Back xs X = (exact greater_order xs X, exact less_order xs X)

-- a load whose number is beyond the limit
abbrev pub beyond : PerLoad ℤ → Load → Bool
beyond n l = not (within (of_load n l))

-- 9 and the load that was found, or what governs where none was
abbrev pub told_found : Option Load → Governing → Told Load Governing
told_found (Some l) g = refused 9 l
told_found None g = gives g

-- what is told is of the first load beyond the limit
pub limited_found : (n : PerLoad ℤ) (ls : List Load) (g : Governing) → limited_from ls (map (of_load n) ls) g ≡ told_found (find (beyond n) ls) g
unfolding limited_from
limited_found n [] g = refl
limited_found n (l ∷ ls) g =
    elim (within (of_load n l)) as (λ t. cond t (limited_from ls (map (of_load n) ls) g) (refused 9 l) ≡ told_found (cond (not t) (Some l) (find (beyond n) ls)) g)
    [ true ↦ limited_found n ls g | false ↦ refl ]

-- where there is none, they are all within it
pub none_found : (n : PerLoad ℤ) (ls : List Load) → find (beyond n) ls ≡ None → EachAtMost limit (map (of_load n) ls)
none_found n [] e i = omega arith
none_found n (l ∷ ls) e i = go (within (of_load n l)) refl e (none_found n ls) i
  where
    go : (t : Bool) → within (of_load n l) ≡ t → cond (not t) (Some l) (find (beyond n) ls) ≡ None → (find (beyond n) ls ≡ None → EachAtMost limit (map (of_load n) ls)) → EachAtMost limit (map (of_load n) (l ∷ ls))
    go true w h f zero = leb-true (nat_abs (of_load n l)) limit w
    go true w h f (suc i) = f h i
    go false w h f i = let never : Some l ≡ None = h in absurd (cc)

-- 9 and the load at an index, where the number there is the first beyond the limit
pub first_beyond : (ls : List Load) (zs : List ℤ) (g : Governing) (i : ℕ) (d : Load) → i < length ls → i < length zs
    → ((k : ℕ) → k < i → nat_abs (get_or zs k (pos 0)) ≤ limit) → within (get_or zs i (pos 0)) ≡ false → limited_from ls zs g ≡ refused 9 (get_or ls i d)
unfolding limited_from
first_beyond [] zs g i d h k f e = absurd (omega arith)
first_beyond (l ∷ ls) [] g i d h k f e = absurd (omega arith)
first_beyond (l ∷ ls) (z ∷ zs) g zero d h k f e = rw e
first_beyond (l ∷ ls) (z ∷ zs) g (suc i) d h k f e =
    rw (le-leb (nat_abs z) limit (f 0 (omega arith))) (first_beyond ls zs g i d (omega arith) (omega arith) (λ j p. f (suc j) (omega arith)) e)

-- none is beyond it
none_beyond : (ls : List Load) (zs : List ℤ) (g : Governing) → EachAtMost limit zs → limited_from ls zs g ≡ gives g
unfolding limited_from
none_beyond [] zs g f = refl
none_beyond (l ∷ ls) [] g f = refl
none_beyond (l ∷ ls) (z ∷ zs) g f = rw (le-leb (nat_abs z) limit (f 0)) (none_beyond ls zs g (λ i. f (suc i)))

-- whole numbers within the limit have their governing rows
pub seven_governed : (xs : List ℤ) → Seven limit xs → governed xs ≡ gives (governing xs)
unfolding governed
seven_governed xs s = none_beyond loads xs (governing xs) s.each

pub newtons_governed : (n : PerLoad ℤ) → Seven limit (newtons_of n) → governed (newtons_of n) ≡ gives (governing (newtons_of n))
newtons_governed n s = seven_governed (newtons_of n) s

-- what the check takes governs as it is
pub checked_governed : (e : PerLoad Float) (xs : List ℤ) → checked_of e ≡ gives xs → combined_of e ≡ gives (governing xs)
unfolding combined_of combined with_double
checked_governed e xs h = ap (combined e) h ∙ ap (with_double e) (seven_governed xs (checked_seven e h))

-- so whole newtons within the limit, handed over as doubles, have the governing rows of these numbers
pub newtons_combined : (n : PerLoad ℤ) → Seven limit (newtons_of n) → combined_of (doubles_of n) ≡ gives (governing (newtons_of n))
newtons_combined n s = checked_governed (doubles_of n) (newtons_of n) (doubles_taken n s)

-- the double of each governing sum has the sum as its value
pub nothing_lost : (e : PerLoad Float) → NothingLost (combined_of e)
unfolding combined_of combined NothingLost
nothing_lost e = go (checked_of e) refl
  where
    go : (t : Told (LoadEffect Load) (List ℤ)) → checked_of e ≡ t → NothingLost (combined_of e)
    go (gives xs) h = subst⁻¹ NothingLost (checked_governed e xs h) (rows_exact (LoadEffect Load) xs (checked_seven e h))
    go (refused n x) h = subst⁻¹ NothingLost (ap (combined e) h) tt

-- so an answer that says what the definition says promises both
pub promised : (e : PerLoad Float) {t : Told (LoadEffect Load) Governing} → t ≡ combined_of e → (t ≡ combined_of e) × NothingLost t
promised e h = (h, subst⁻¹ NothingLost h (nothing_lost e))
