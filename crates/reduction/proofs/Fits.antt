-- The share of every line fits a machine word, and the laws of the reduced load under that.
-- Assumes nothing.
use Rattle.std.proofs.Common.{◌≡◌, refl, sym, ◌∙◌, subst, Bool, true, false, ℕ, ◌*◌, ◌-◌, ◌≤◌, ◌<◌, mul-le-mul_right, arith, eqb, leb-true, leb-false, le-leb, eqb-true}
use Rattle.std.proofs.lemmas.Bool.{and_parts}
use Rattle.reduction.specs.declared.InfluenceArea.{InfluenceArea}
use Rattle.reduction.specs.declared.share.Share.{Share}
use Rattle.reduction.specs.declared.share.Share.TheVariants.{Twentieths, Root}
use Rattle.reduction.specs.Least.{sq}
use Rattle.member.specs.Between.{between}
use Rattle.member.specs.Line.{is_formula}
use Rattle.reduction.specs.Share.{root_at_least, root_at_most, least_twentieths, formula_share, other_twentieths, share_of}
use Rattle.reduction.specs.theorems.Rounding.{AtMostOne}
use Rattle.reduction.specs.Reduced.{reaches, reduced, reduced_of}
use Rattle.refusal.specs.Said.{gives}
use Rattle.member.proofs.Tests.{limits, in_limits}
use Rattle.reduction.specs.inner.ShareBounds.{Bounds, Fit}
use Rattle.reduction.proofs.Squares.{sq_le}
use Rattle.reduction.proofs.Root.{cap_last}
use Rattle.reduction.proofs.Shares.{formula_cases, share_cases, least_within, other_within}
use Rattle.reduction.proofs.Reduced.{reduced_reaches, at_most, above, reduced_at_most_load}

-- the root is left only between the cap and the least share
root_above : (x : InfluenceArea) → root_at_least 20 x ≡ false → 3713 ≤ x.0
root_above x e = omega (arith, leb-false x.0 3712 (sym (cap_last x) ∙ e))

root_below : (n : ℕ) (x : InfluenceArea) → root_at_most (least_twentieths n) x ≡ false → x.0 ≤ 92821
unfolding root_at_most
root_below n x e =
    let three : 3 ≤ least_twentieths n - 5 = omega (arith, least_within n) in
    omega (arith, mul-le-mul_right x.0 (sq_le three), leb-false (sq 914) (sq (least_twentieths n - 5) * x.0) e)

-- the class and the load of a formula line
pub formula_class : (load class : ℕ) → is_formula load class ≡ true → class ≡ 1
unfolding is_formula
formula_class load class e = eqb-true class 1 (and_parts (eqb class 1) _ e).0

pub formula_load_lem : (load class : ℕ) → is_formula load class ≡ true → load ≤ 5000
unfolding is_formula
formula_load_lem load class e = leb-true load 5000 (and_parts (eqb class 1) _ e).1

-- the share of a line fits
pub share_fits : (load class n : ℕ) (x : InfluenceArea) → load ≤ 50000 → Fit (share_of load class n x) load
unfolding Bounds
share_fits load class n x l =
    record { bounds = share_cases (λ (s : Share). Bounds s load) load class n x formula (λ _. ((other_within class n).1, l)) }
  where
    formula : is_formula load class ≡ true → Bounds (formula_share n x) load
    formula e =
        formula_cases (λ (s : Share). Bounds s load) n x
        (λ _. (omega arith, l))
        (λ _ _. (omega (arith, least_within n), l))
        (λ c h. (root_above x c, root_below n x h, formula_load_lem load class e))

-- that of a formula line is the formula's; it has a reduced load, since its class and its load are within their limits
pub formula_fit : (load class n : ℕ) (x : InfluenceArea) → is_formula load class ≡ true → Fit (formula_share n x) load
unfolding share_of
formula_fit load class n x f = rw f at (share_fits load class n x (omega (arith, formula_load_lem load class f)))

pub formula_reduced : (load class n : ℕ) (x : InfluenceArea) → is_formula load class ≡ true → 0 < load → gives (reduced (formula_share n x) load) ≡ reduced_of load class n x
unfolding share_of reduced_of
formula_reduced load class n x f some =
    let one = formula_class load class f in
    let most = formula_load_lem load class f in
    rw (in_limits 1 3 class (omega (arith, one)) (omega (arith, one)), in_limits 1 50000 load (omega arith) (omega (arith, most)), f)

-- a line within its limits that the formula is not for has its twentieths
pub other_reduced : (load class n : ℕ) → (is_formula load class ≡ true → load ≡ 0) → between 1 3 class ≡ true → between 1 50000 load ≡ true
    → (x : InfluenceArea) → gives (reduced (Twentieths (other_twentieths class n)) load) ≡ reduced_of load class n x
unfolding share_of reduced_of
other_reduced load class n none known within x = rw (known, within, other (is_formula load class) refl)
  where
    other : (b : Bool) → is_formula load class ≡ b → b ≡ false
    other false e = refl
    other true e = absurd (omega (arith, none e, limits 1 50000 load within))

-- and so does that of the formula lines: a load of 1 has it
pub formula_fits : (n : ℕ) (x : InfluenceArea) → Fit (formula_share n x) 1
unfolding share_of is_formula
formula_fits n x = share_fits 1 1 n x (omega arith)

bounds_one : (s : Share) (load : ℕ) → Bounds s load → AtMostOne s
unfolding Bounds AtMostOne root_at_most
bounds_one (Twentieths k) load h = h.0
bounds_one (Root x) load h = le-leb (sq 914) (225 * x.0) (omega arith)

bounds_load : (s : Share) (load : ℕ) → Bounds s load → load ≤ 50000
unfolding Bounds
bounds_load (Twentieths k) load h = h.1
bounds_load (Root x) load h = omega arith

-- what a share that fits says once its case is known
bounds_as : {s t : Share} {load : ℕ} → Fit s load → s ≡ t → Bounds t load
bounds_as {load = load} h e = subst (λ (s : Share). Bounds s load) e h.bounds

pub fit_twentieths : {s : Share} {load k : ℕ} → Fit s load → s ≡ Twentieths k → (k ≤ 20) × (load ≤ 50000)
unfolding Bounds
fit_twentieths h e = bounds_as h e

pub fit_root : {s : Share} {load : ℕ} {x : InfluenceArea} → Fit s load → s ≡ Root x → (3713 ≤ x.0) × (x.0 ≤ 92821) × (load ≤ 5000)
unfolding Bounds
fit_root h e = bounds_as h e

-- the formula's share is the root only past the cap and before the least share
pub formula_root : (n : ℕ) (x : InfluenceArea) {y : InfluenceArea} → formula_share n x ≡ Root y → (3713 ≤ y.0) × (y.0 ≤ 92821)
formula_root n x e = let fits = fit_root (formula_fits n x) e in (fits.0, fits.1)

module _ {s : Share} {load : ℕ} (h : Fit s load) where
  pub fit_load : load ≤ 50000
  fit_load = bounds_load s load h.bounds

  one : AtMostOne s
  one = bounds_one s load h.bounds

  pub fit_reaches : reaches s load (reduced s load) ≡ true
  fit_reaches = reduced_reaches s load one

  -- what does not reach is below the reduced load, what reaches is not, and the load is not
  pub fit_above : {j : ℕ} → reaches s load j ≡ false → j < reduced s load
  fit_above {j} e = above s load one j e

  pub fit_at_most : {j : ℕ} → reaches s load j ≡ true → reduced s load ≤ j
  fit_at_most {j} e = at_most s load one j e

  pub fit_whole : reduced s load ≤ load
  fit_whole = reduced_at_most_load s load one
