-- The reduced load of a line by the rate of its share, and which rate that is.
-- Assumes nothing.
use Rattle.std.proofs.Common.{◌≡◌, refl, sym, ◌∙◌, ap, Bool, true, false, ◌&&◌, ℕ, ◌+◌, ◌*◌, ◌/◌, ◌≤◌, ◌<◌, mul_assoc, mul_comm, mul-add, mul-le-mul, arith, leb, eqb, le-leb, eqb-true, eq-eqb, ne_eqb}
use Rattle.std.specs.Prelude.{Some}
use Rattle.std.proofs.Math.Path.{subst⁻¹}
use Rattle.std.proofs.lemmas.Bool.{lt-leb, eqb-false}
use Rattle.lists.proofs.Tests.{cases, same_test}
use Rattle.member.specs.Line.{is_formula}
use Rattle.reduction.specs.declared.InfluenceArea.{InfluenceArea}
use Rattle.reduction.specs.declared.share.Share.{Share}
use Rattle.reduction.specs.declared.share.Share.TheVariants.{Twentieths, Root}
use Rattle.reduction.specs.Share.{clamped_of, formula_share, heavy_twentieths, other_twentieths, share_of}
use Rattle.reduction.specs.Reduced.{reduced}
use Rattle.reduction.specs.Scale.{root_scale, scale_of}
use Rattle.reduction.specs.inner.ShareBounds.{Fit}
use Rattle.reduction.proofs.Shares.{other_within}
use Rattle.reduction.proofs.Twentieths.{share_formula, share_other, clamped_is, twentieths_least}
use Rattle.reduction.proofs.Fits.{formula_class, formula_load_lem, formula_fits, share_fits, fit_twentieths, fit_root, fit_load}
use Rattle.reduction.proofs.Scales.{Scaled, root_scaled, scale_most, root_is}
use Rattle.column.specs.declared.Line.{Line}
use Rattle.column.specs.Line.{unpacked, key_of}
use Rattle.column.specs.inner.Sound.{InLimits}
use Rattle.figure.specs.declared.rates.Rate.{Rate}
use Rattle.figure.specs.declared.shares.Shares.{Shares}
use Rattle.figure.specs.Carried.{is_formula_line}
use Rattle.figure.specs.Figure.{line_figure}
use Rattle.figure.specs.inner.Rates.{twentieths_rate, root_rate, share_rate, rate_of}
use Rattle.figure.specs.inner.Shared.{formula_load, figure_by}
use Rattle.figure.proofs.Most.{line_most}

-- what a rate gives for a load, and that it is not in doubt
abbrev pub by : Rate → ℕ → ℕ
by r load = (load * r.times + r.plus) / 67108864

abbrev pub Sure : Rate → ℕ → Type 0
Sure r load = (load * r.times + r.plus + load * r.doubt) / 67108864 ≡ by r load

-- so many twentieths of a load, rounded up
pub twentieths_by : (k load : ℕ) → k ≤ 20 → load ≤ 50000 → by (twentieths_rate k) load ≡ reduced (Twentieths k) load
unfolding twentieths_rate
twentieths_by k load h l =
    let most : k * load ≤ 1000000 = mul-le-mul h l in
    let times : load * (k * 3355444) ≡ k * load * 3355444 = sym (mul_assoc load k 3355444) ∙ ap (λ (t : ℕ). t * 3355444) (mul_comm load k) in
    let rounded : by (twentieths_rate k) load ≡ (k * load + 19) / 20 = omega (arith, times) in
    rounded ∙ sym (twentieths_least k load h)

-- the root's share, where its scale and one more give the same
scaled_by : (s load r : ℕ) → Scaled s load r → Sure (root_rate s) load → by (root_rate s) load ≡ r
unfolding root_rate
scaled_by s load r h sure =
    let times : load * ((524288 + s) * 32) ≡ (load * 524288 + load * s) * 32 = sym (mul_assoc load (524288 + s) 32) ∙ ap (λ (t : ℕ). t * 32) (mul-add load 524288 s) in
    let low = load * 524288 + load * s + 2097151 in
    let one : by (root_rate s) load ≡ low / 2097152 = omega (arith, times) in
    one ∙ h (omega (arith, times, sure))

-- a load that has a share, by the share's rate
share_by : (s : Share) (load : ℕ) → Fit s load → Sure (share_rate s) load → by (share_rate s) load ≡ reduced s load
unfolding share_rate
share_by (Twentieths k) load fit sure = twentieths_by k load (fit_twentieths {k = k} fit refl).0 (fit_load fit)
share_by (Root x) load fit sure = scaled_by (root_scale x) load _ (root_scaled x load fit) sure

-- no rate is larger than this, so that no product passes 64 bits
pub record Small (r : Rate) : Type 0 where
  pub times : r.times ≤ 67108880
  pub plus : r.plus ≤ 67108832
  pub doubt : r.doubt ≤ 32

pub twentieths_small : (k : ℕ) → k ≤ 20 → Small (twentieths_rate k)
unfolding twentieths_rate
twentieths_small k h = record { times = omega arith; plus = omega arith; doubt = omega arith }

share_small : (s : Share) → Fit s 1 → Small (share_rate s)
unfolding share_rate root_rate
share_small (Twentieths k) fit = twentieths_small k (fit_twentieths {k = k} fit refl).0
share_small (Root x) fit =
    let most = scale_most x (fit_root {x = x} fit refl).0 in
    record { times = omega (arith, most); plus = omega arith; doubt = omega arith }

pub formula_small : (n : ℕ) (x : InfluenceArea) → Small (rate_of n x)
unfolding rate_of
formula_small n x = share_small (formula_share n x) (formula_fits n x)

shares_small : (s : Shares) → Small s.formula
shares_small s = subst⁻¹ Small s.formula_is (formula_small s.carried.floors s.carried.influence)

pub times_most : (s : Shares) (load : ℕ) → load ≤ 5000 → load * s.formula.times ≤ 335544400000
times_most s load h = mul-le-mul h (shares_small s).times

pub doubts_most : (s : Shares) (load : ℕ) → load ≤ 5000 → load * s.formula.doubt ≤ 160000
doubts_most s load h = mul-le-mul h (shares_small s).doubt

pub low_most : (s : Shares) (load : ℕ) → load ≤ 5000 → load * s.formula.times + s.formula.plus ≤ 335611508832
low_most s load h = omega (arith, times_most s load h, (shares_small s).plus)

-- a formula line's load by the formula's rate
pub rate_by : (n load : ℕ) (x : InfluenceArea) → load ≤ 5000 → let r = rate_of n x in Sure r load → by r load ≡ reduced (share_of load 1 n x) load
unfolding rate_of is_formula
rate_by n load x small sure =
    let share : share_of load 1 n x ≡ formula_share n x = share_formula load 1 n x (le-leb load 5000 small) in
    let fits = rw share at (share_fits load 1 n x (omega arith)) in
    rw share (share_by (formula_share n x) load fits sure)

-- and so by that of the shares at a floor
pub formula_by : (s : Shares) (load : ℕ) → load ≤ 5000 → Sure s.formula load → by s.formula load ≡ formula_load s load
formula_by s load small =
    subst⁻¹ (λ (r : Rate). Sure r load → by r load ≡ formula_load s load) s.formula_is (rate_by s.carried.floors load s.carried.influence small)

-- the rate is that of the twentieths where the share is clamped, and else the root's by its scale
pub rate_clamped : (n : ℕ) (x : InfluenceArea) {k : ℕ} → clamped_of n x ≡ Some k → twentieths_rate k ≡ rate_of n x
unfolding rate_of share_rate
rate_clamped n x e = rw (clamped_is n x e)

pub rate_root : (n : ℕ) (x : InfluenceArea) {scale : ℕ} → scale_of n x ≡ Some scale → root_rate scale ≡ rate_of n x
unfolding rate_of share_rate
rate_root n x e = let (y, share, is) = root_is n x e in ap root_rate is ∙ ap share_rate (sym share)

-- a key is the class and the load in their order
module _ (number : ℕ) (ok : InLimits (unpacked number)) where
  pub key_is : key_of number ≡ (unpacked number).class * 65536 + (unpacked number).load
  unfolding unpacked
  key_is = omega arith

  -- a formula line's is at most that of class 1 and 5,000
  pub key_formula : leb (key_of number) 70536 ≡ is_formula_line (unpacked number)
  unfolding is_formula_line is_formula
  key_formula =
      cases (λ (b : Bool). leb (key_of number) 70536 ≡ (b && leb (unpacked number).load 5000)) (eqb (unpacked number).class 1)
      (λ e. let is = eqb-true (unpacked number).class 1 e in
      same_test (key_of number) 70536 (unpacked number).load 5000 (λ h. omega (arith, key_is, is)) (λ h. omega (arith, key_is, is)))
      (λ e. lt-leb (key_of number) 70536 (omega (arith, key_is, ok.class, ok.load, eqb-false (unpacked number).class 1 e)))

  -- and below that of class 3 the share of class 2 stands
  pub key_other : (n : ℕ) → key_of number < 196608 → other_twentieths (unpacked number).class n ≡ heavy_twentieths n
  unfolding other_twentieths
  key_other n h = rw (ne_eqb (unpacked number).class 3 (λ e. omega (arith, key_is, ok.load)))

  pub key_assembly : (n : ℕ) → 196608 ≤ key_of number → other_twentieths (unpacked number).class n ≡ 20
  unfolding other_twentieths
  key_assembly n h = rw (eq-eqb (unpacked number).class 3 (omega (arith, key_is, ok.load, ok.class)))

-- R × area of a line by what its share's rate gives, and that it is no more than the largest load on the largest area
module _ (s : Shares) (l : Line) (ok : InLimits l) where
  figure_most : {p : ℕ} → p ≡ figure_by s l → (p ≡ figure_by s l) × (p ≤ 10000000000)
  figure_most e = (e, rw e (line_most s.carried.floors s.carried.influence l ok))

  pub figure_formula : is_formula_line l ≡ true → {r : ℕ} → r ≡ formula_load s l.load
      → (r * l.area.0 ≡ figure_by s l) × (r * l.area.0 ≤ 10000000000)
  unfolding is_formula_line line_figure
  figure_formula e q = figure_most (rw (q, formula_class l.load l.class e))

  pub formula_most : is_formula_line l ≡ true → l.load ≤ 5000
  unfolding is_formula_line
  formula_most e = formula_load_lem l.load l.class e

  pub other_most : l.load * (twentieths_rate (other_twentieths l.class s.carried.floors)).times ≤ 3355444000000
  other_most = mul-le-mul ok.load.1 (twentieths_small _ (other_within l.class s.carried.floors).1).times

  pub figure_other : is_formula_line l ≡ false → {t : ℕ} → t ≡ (twentieths_rate (other_twentieths l.class s.carried.floors)).times
      → let r = (l.load * t + 63753436) / 67108864 in (r * l.area.0 ≡ figure_by s l) × (r * l.area.0 ≤ 10000000000)
  unfolding is_formula_line line_figure twentieths_rate
  figure_other e q =
      let k = other_twentieths l.class s.carried.floors in
      figure_most (rw (share_other l.load l.class s.carried.floors s.carried.influence e, q, twentieths_by k l.load (other_within l.class s.carried.floors).1 ok.load.1))
