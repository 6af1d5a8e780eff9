-- The scale is the root's, rounded down; and where it and one more give the same load, rounded up, that is the reduced load.
-- Assumes nothing.
use Rattle.std.proofs.Common.{◌≡◌, refl, sym, ◌∙◌, ap, Bool, true, ℕ, zero, suc, ◌+◌, ◌*◌, ◌-◌, ◌/◌, ◌^◌, ◌≤◌, ◌<◌, mul_assoc, mul_comm, add-mul, mul-zero, mul-le-mul, mul-le-mul_left, mul-le-mul_right, le_refl, le_trans, le_of_lt, not-le_of_lt, lt_of_not-le, le_antisymm, add-one, arith, ltb, leb-true, le-leb, ltb-true, ltb-false, lt-ltb}
use Rattle.std.specs.Prelude.{None, Some, IsSome}
use Rattle.std.proofs.lemmas.Bool.{and_parts, and_from}
use Rattle.std.proofs.Math.Decide.{dec_le}
use Rattle.std.proofs.Math.Nat.{le_of_mul-le-mul_left, lt-mul-div-succ}
use Rattle.std.proofs.Math.Path.{subst⁻¹}
use Rattle.reduction.specs.declared.InfluenceArea.{InfluenceArea}
use Rattle.reduction.specs.declared.share.Share.{Share}
use Rattle.reduction.specs.declared.share.Share.TheVariants.{Twentieths, Root}
use Rattle.member.specs.Line.{is_formula}
use Rattle.reduction.specs.Least.{sq}
use Rattle.reduction.specs.Share.{clamped_share, clamped_of, formula_share, share_of}
use Rattle.reduction.specs.Reduced.{reaches, reduced}
use Rattle.reduction.specs.Scale.{root_scale, share_scale, scale_of}
use Rattle.reduction.specs.inner.ShareBounds.{Fit}
use Rattle.reduction.proofs.Squares.{sq_le, sq_le⁻¹, sq_lt⁻¹, sq_mul, under_square}
use Rattle.reduction.proofs.Least.{found, none}
use Rattle.reduction.proofs.Root.{regroup}
use Rattle.reduction.proofs.Twentieths.{share_formula}
use Rattle.reduction.proofs.Fits.{formula_fit, formula_fits, fit_root, fit_at_most, fit_reaches}

module _ (x : InfluenceArea) where
  past : ℕ → Bool
  past s = ltb (sq (914 * 2 ^ 19)) (25 * x.0 * sq (s + 1))

  -- all up to the scale fit under the root, and nothing above it does
  pub scale_fits : {s : ℕ} → s ≤ root_scale x → 25 * x.0 * sq s ≤ sq (914 * 2 ^ 19)
  unfolding root_scale past
  scale_fits {s = zero} h = rw (mul-zero (25 * x.0)) (omega arith)
  scale_fits {s = suc j} h = rw (← add-one j) (ltb-false _ _ (none past 0 (914 * 2 ^ 19) j (omega arith) h))

  pub scale_next : 1 ≤ x.0 → sq (914 * 2 ^ 19) < 25 * x.0 * sq (root_scale x + 1)
  unfolding root_scale past
  scale_next some =
      let last : sq (914 * 2 ^ 19) < 25 * x.0 * sq (914 * 2 ^ 19 + 1) = omega arith in
      ltb-true _ _ (found past 0 (914 * 2 ^ 19) (lt-ltb _ _ last))

  pub fits_scale : {s : ℕ} → 1 ≤ x.0 → 25 * x.0 * sq s ≤ sq (914 * 2 ^ 19) → s ≤ root_scale x
  fits_scale {s} some h =
      elim (dec_le s (root_scale x)) [
        | yes p ↦ p
        | no n ↦
            let next : sq (root_scale x + 1) ≤ sq s = sq_le (omega (arith, lt_of_not-le n)) in
            absurd (not-le_of_lt (scale_next some) (le_trans (mul-le-mul_left (25 * x.0) next) h))
      ]

  -- the scale is less than 3 × 2¹⁹
  pub scale_most : 3713 ≤ x.0 → root_scale x ≤ 1572863
  scale_most h =
      let many : 92825 ≤ 25 * x.0 = omega arith in
      let fits : 92825 * sq (root_scale x) ≤ sq (914 * 2 ^ 19) =
      le_trans (mul-le-mul_right (sq (root_scale x)) many) (scale_fits (le_refl _)) in
      let less : root_scale x < 1572864 = sq_lt⁻¹ (omega arith) in
      omega arith

  -- Newton's step from any number does not end below one whose square fits
  step_from : (u s a : ℕ) → 1 ≤ a → 1 ≤ x.0 → 25 * x.0 * sq u ≤ sq s → u ≤ (a + sq s / (25 * x.0 * a)) / 2
  step_from u s a h some fits =
      let q = sq s / (25 * x.0 * a) in
      let pos : 0 < 25 * x.0 * a = omega (arith, mul-le-mul some h, mul_assoc 25 x.0 a) in
      let above : sq s < 25 * x.0 * (a * (q + 1)) = rw (← mul_assoc (25 * x.0) a (q + 1)) (lt-mul-div-succ (sq s) pos) in
      elim (dec_le u ((a + q) / 2)) [
        | yes p ↦ p
        | no n ↦
            let under : a * (q + 1) ≤ sq u = under_square a (q + 1) u (omega (arith, lt_of_not-le n)) in
            absurd (not-le_of_lt above (le_trans (mul-le-mul_left (25 * x.0) under) fits))
      ]

  -- so not below the scale, and not below twice the scale in units of 2⁻²⁰
  pub scale_step : (a : ℕ) → 1 ≤ a → 1 ≤ x.0 → root_scale x ≤ (a + sq (914 * 2 ^ 19) / (25 * x.0 * a)) / 2
  scale_step a h some = step_from (root_scale x) (914 * 2 ^ 19) a h some (scale_fits (le_refl _))

  pub step_above : (a : ℕ) → 1 ≤ a → 1 ≤ x.0 → 2 * root_scale x ≤ (a + sq (914 * 2 ^ 20) / (25 * x.0 * a)) / 2
  step_above a h some =
      let s = root_scale x in
      let four : 25 * x.0 * sq (2 * s) ≡ 4 * (25 * x.0 * sq s) = omega (arith, sq_mul 2 s, ap (λ (n : ℕ). 25 * x.0 * n) (sq_mul 2 s)) in
      step_from (2 * s) (914 * 2 ^ 20) a h some (omega (arith, four, scale_fits (le_refl s)))

  -- the scale is 1 at least
  pub scale_some : 1 ≤ x.0 → x.0 ≤ 92821 → 1 ≤ root_scale x
  scale_some some few = fits_scale some (omega arith)

group : (a b c : ℕ) → a * sq (b * c) ≡ a * sq b * sq c
group a b c = ap (λ (n : ℕ). a * n) (sq_mul b c) ∙ sym (mul_assoc a (sq b) (sq c))

-- (914 × 2¹⁹)² load² is 2³⁸ (914 load)²
units : (load : ℕ) → sq (914 * 2 ^ 19) * sq load ≡ 2 ^ 38 * sq (914 * load)
units load = rw (sq_mul 914 load) (omega arith)

-- 2³⁸ e g² is e (2¹⁹ g)²
inside : (e g : ℕ) → 2 ^ 38 * (e * sq g) ≡ e * sq (2 ^ 19 * g)
inside e g = sym (regroup (2 ^ 19) e g ∙ mul_assoc (2 ^ 38) e (sq g))

module _ (x : InfluenceArea) (load : ℕ) (some : 1 ≤ x.0) where
  -- what reaches the root's share reaches the scale's
  reaches_scale : (r : ℕ) → reaches (Root x) load r ≡ true → load * 524288 + load * root_scale x ≤ 2097152 * r
  unfolding reaches
  reaches_scale r e =
      let both = and_parts _ _ e in
      let low : load ≤ 4 * r = leb-true _ _ both.0 in
      let root : sq (914 * load) ≤ 25 * x.0 * sq (4 * r - load) = leb-true _ _ both.1 in
      let left : 25 * x.0 * sq (root_scale x * load) ≤ 2 ^ 38 * sq (914 * load) =
      rw (group (25 * x.0) (root_scale x) load, ← units load) (mul-le-mul_right (sq load) (scale_fits x (le_refl _))) in
      let right : 2 ^ 38 * sq (914 * load) ≤ 25 * x.0 * sq (2 ^ 19 * (4 * r - load)) =
      rw (← inside (25 * x.0) (4 * r - load)) (mul-le-mul_left (2 ^ 38) root) in
      let roots : root_scale x * load ≤ 2 ^ 19 * (4 * r - load) =
      sq_le⁻¹ (le_of_mul-le-mul_left (le_trans left right) (omega arith)) in
      omega (arith, mul_comm load (root_scale x))

  -- what reaches the share of one more reaches the root's
  next_reaches : (r : ℕ) → load * 524288 + load * root_scale x + load ≤ 2097152 * r → reaches (Root x) load r ≡ true
  unfolding reaches
  next_reaches r e =
      let low : load ≤ 4 * r = omega arith in
      let roots : (root_scale x + 1) * load ≤ 2 ^ 19 * (4 * r - load) = omega (arith, mul_comm load (root_scale x), add-mul (root_scale x) 1 load) in
      let left : 2 ^ 38 * sq (914 * load) ≤ 25 * x.0 * sq ((root_scale x + 1) * load) =
      rw (group (25 * x.0) (root_scale x + 1) load, ← units load) (mul-le-mul_right (sq load) (le_of_lt (scale_next x some))) in
      let right : 25 * x.0 * sq ((root_scale x + 1) * load) ≤ 2 ^ 38 * (25 * x.0 * sq (4 * r - load)) =
      rw (inside (25 * x.0) (4 * r - load)) (mul-le-mul_left (25 * x.0) (sq_le roots)) in
      let root : sq (914 * load) ≤ 25 * x.0 * sq (4 * r - load) = le_of_mul-le-mul_left (le_trans left right) (omega arith) in
      and_from _ _ (le-leb _ _ low) (le-leb _ _ root)

-- where a scale and one more give the same, rounded up, that is r
abbrev pub Scaled : ℕ → ℕ → ℕ → Type 0
Scaled s load r = let low = load * 524288 + load * s + 2097151 in low / 2097152 ≡ (low + load) / 2097152 → low / 2097152 ≡ r

-- the reduced load by the root
pub root_scaled : (x : InfluenceArea) (load : ℕ) → Fit (Root x) load → Scaled (root_scale x) load (reduced (Root x) load)
root_scaled x load fit same =
    let some : 1 ≤ x.0 = omega (arith, fit_root fit refl) in
    le_antisymm
    (omega (arith, reaches_scale x load some (reduced (Root x) load) (fit_reaches fit)))
    (fit_at_most fit (next_reaches x load some _ (omega arith)))

unclamped : (s : Share) → clamped_share s ≡ None → IsSome (share_scale s)
unfolding clamped_share share_scale
unclamped (Twentieths k) e = cc
unclamped (Root x) e = refl

root_as : (s : Share) {scale : ℕ} → share_scale s ≡ Some scale → (x : InfluenceArea) × (s ≡ Root x) × (scale ≡ root_scale x)
unfolding share_scale
root_as (Twentieths k) e = cc
root_as (Root x) e = (x, refl, cc)

-- the formula lines have a scale where their share is the root
pub root_is : (n : ℕ) (x : InfluenceArea) {scale : ℕ} → scale_of n x ≡ Some scale
    → (y : InfluenceArea) × (formula_share n x ≡ Root y) × (scale ≡ root_scale y)
unfolding scale_of
root_is n x e = root_as (formula_share n x) e

pub root_where : (n : ℕ) (x : InfluenceArea) → clamped_of n x ≡ None → IsSome (scale_of n x)
unfolding clamped_of scale_of
root_where n x e = unclamped (formula_share n x) e

-- and so that of a formula line where its share is not clamped
pub line_scaled : (load class n : ℕ) (x : InfluenceArea) {scale : ℕ} → is_formula load class ≡ true → scale_of n x ≡ Some scale
    → Scaled scale load (reduced (share_of load class n x) load)
line_scaled load class n x {scale} f e =
    let (y, root, is) = root_is n x e in
    let share : share_of load class n x ≡ Root y = share_formula load class n x f ∙ root in
    let fits = rw root at (formula_fit load class n x f) in
    subst⁻¹ (λ (s : ℕ). Scaled s load (reduced (share_of load class n x) load)) is (rw share (root_scaled y load fits))

-- no scale of the formula lines is larger
pub scale_within : (n : ℕ) (x : InfluenceArea) {scale : ℕ} → scale_of n x ≡ Some scale → scale ≤ 1572863
scale_within n x {scale} e =
    let (y, root, is) = root_is n x e in
    omega (arith, is, scale_most y (fit_root (formula_fits n x) root).0)
