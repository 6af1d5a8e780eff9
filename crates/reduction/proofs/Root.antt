-- The root 1/4 + 45.7/√X against so many twentieths, told by squares.
-- Assumes nothing.
use Rattle.std.proofs.Common.{◌≡◌, sym, ◌∙◌, ap, true, false, ⊎_elim, ℕ, ◌+◌, ◌*◌, ◌-◌, ◌≤◌, ◌<◌, mul_assoc, mul_comm, add-mul, zero-mul, mul-zero, mul-le-mul_left, mul-le-mul_right, le_trans, le_of_lt, lt_of_not-le, eq-zero-or-pos, arith, leb, leb-true, leb-false, le-leb}
use Rattle.std.proofs.lemmas.Bool.{and_parts, and_from}
use Rattle.std.proofs.Math.Decide.{dec_le}
use Rattle.std.proofs.Math.Nat.{le_of_mul-le-mul_left}
use Rattle.lists.proofs.Tests.{same_test}
use Rattle.reduction.specs.declared.InfluenceArea.{InfluenceArea}
use Rattle.reduction.specs.declared.share.Share.TheVariants.{Twentieths, Root}
use Rattle.reduction.specs.Least.{sq}
use Rattle.reduction.specs.Share.{root_at_least, root_at_most}
use Rattle.reduction.specs.Reduced.{reaches}
use Rattle.reduction.proofs.Squares.{sq_le, sq_le⁻¹, sq_mul, sq_five}

-- (d load)² x is d² x load²
pub regroup : (d x load : ℕ) → x * sq (d * load) ≡ sq d * x * sq load
regroup d x load =
    ap (λ (n : ℕ). x * n) (sq_mul d load) ∙ (sym (mul_assoc x (sq d) (sq load)) ∙ ap (λ (n : ℕ). n * sq load) (mul_comm x (sq d)))

module _ (x d load r : ℕ) where
  -- 914² ≤ d² x: what reaches (5 + d)/20 reaches the root
  above_root : sq 914 ≤ sq d * x → (5 + d) * load ≤ 20 * r → (load ≤ 4 * r) × (sq (914 * load) ≤ 25 * x * sq (4 * r - load))
  above_root h k =
      let parts : (5 + d) * load ≡ 5 * load + d * load = add-mul 5 d load in
      let gap : d * load ≤ 5 * (4 * r - load) = omega arith in
      let squares : sq 914 * sq load ≤ sq d * x * sq load = mul-le-mul_right (sq load) h in
      (omega arith, rw (sq_mul 914 load, ← sq_five x (4 * r - load)) (le_trans squares (rw (← regroup d x load) (mul-le-mul_left x (sq_le gap)))))

  -- d² x ≤ 914²: what reaches the root reaches (5 + d)/20
  above_twentieths : sq d * x ≤ sq 914 → load ≤ 4 * r → sq (914 * load) ≤ 25 * x * sq (4 * r - load) → (5 + d) * load ≤ 20 * r
  above_twentieths h l k =
      let parts : (5 + d) * load ≡ 5 * load + d * load = add-mul 5 d load in
      let gap : d * load ≤ 5 * (4 * r - load) = ⊎_elim zero_area some_area (eq-zero-or-pos x) in
      omega arith
    where
      squares : sq (914 * load) ≤ x * sq (5 * (4 * r - load))
      squares = rw (sq_five x (4 * r - load)) k

      -- without an area only a load of 0 reaches
      zero_area : x ≡ 0 → d * load ≤ 5 * (4 * r - load)
      zero_area e =
          let none : sq (914 * load) ≤ sq 0 = rw (e, zero-mul (sq (5 * (4 * r - load)))) at squares in
          let empty : load ≡ 0 = omega (arith, sq_le⁻¹ {b = 0} none) in
          rw (empty, mul-zero d) (omega arith)

      some_area : 0 < x → d * load ≤ 5 * (4 * r - load)
      some_area p =
          sq_le⁻¹
          (le_of_mul-le-mul_left
          (rw (regroup d x load) (le_trans (mul-le-mul_right (sq load) h) (rw (sq_mul 914 load) at squares)))
          p)

-- k is at least 5 where the root can be at most k/20
five : (k : ℕ) (x : InfluenceArea) → sq 914 ≤ sq (k - 5) * x.0 → 5 + (k - 5) ≡ k
five k x h = elim (dec_le 5 k) [ yes p ↦ omega arith | no n ↦ absurd (below (omega (arith, lt_of_not-le n))) ]
  where
    below : k - 5 ≡ 0 → ⊥
    below e = omega (arith, rw (e, zero-mul x.0) at h)

module _ (k : ℕ) (x : InfluenceArea) (load r : ℕ) where
  -- what reaches a share that the root does not pass reaches the root
  pub reaches_root : root_at_most k x ≡ true → reaches (Twentieths k) load r ≡ true → reaches (Root x) load r ≡ true
  unfolding root_at_most reaches
  reaches_root h e =
      let most : sq 914 ≤ sq (k - 5) * x.0 = leb-true _ _ h in
      let at : (5 + (k - 5)) * load ≤ 20 * r = rw (five k x most) (leb-true _ _ e) in
      let both = above_root x.0 (k - 5) load r most at in
      and_from _ _ (le-leb _ _ both.0) (le-leb _ _ both.1)

  -- what reaches the root reaches a share that the root is not below
  pub reaches_twentieths : root_at_least k x ≡ true → reaches (Root x) load r ≡ true → reaches (Twentieths k) load r ≡ true
  unfolding root_at_least reaches
  reaches_twentieths h e =
      let both = and_parts _ _ e in
      let least : (5 + (k - 5)) * load ≤ 20 * r =
      above_twentieths x.0 (k - 5) load r (leb-true _ _ h) (leb-true _ _ both.0) (leb-true _ _ both.1) in
      le-leb _ _ (le_trans (mul-le-mul_right load (omega arith)) least)

-- the root is at least or at most k/20
other_way : (a b : ℕ) → leb a b ≡ false → leb b a ≡ true
other_way a b e = le-leb b a (le_of_lt (leb-false a b e))

pub not_at_least : (k : ℕ) (x : InfluenceArea) → root_at_least k x ≡ false → root_at_most k x ≡ true
unfolding root_at_least root_at_most
not_at_least k x e = other_way (sq (k - 5) * x.0) (sq 914) e

pub not_at_most : (k : ℕ) (x : InfluenceArea) → root_at_most k x ≡ false → root_at_least k x ≡ true
unfolding root_at_least root_at_most
not_at_most k x e = other_way (sq 914) (sq (k - 5) * x.0) e

-- Where the cap ends, and where the shares 1/2 and 2/5 begin, in whole dm².
pub cap_last : (x : InfluenceArea) → root_at_least 20 x ≡ leb x.0 3712
unfolding root_at_least
cap_last x = same_test (225 * x.0) (sq 914) x.0 3712 (λ h. omega arith) (λ h. omega arith)

pub half_first : (x : InfluenceArea) → root_at_most 10 x ≡ leb 33416 x.0
unfolding root_at_most
half_first x = same_test (sq 914) (25 * x.0) 33416 x.0 (λ h. omega arith) (λ h. omega arith)

pub two_fifths_first : (x : InfluenceArea) → root_at_most 8 x ≡ leb 92822 x.0
unfolding root_at_most
two_fifths_first x = same_test (sq 914) (9 * x.0) 92822 x.0 (λ h. omega arith) (λ h. omega arith)
