-- What going down from above finds: the scale, and the reduced load above the last number that does not reach.
-- Assumes nothing.
use Rattle.std.proofs.Common.{◌≡◌, sym, ◌∙◌, ap, true, false, ℕ, ◌+◌, ◌≤◌, ◌<◌, le_refl, le_antisymm, lt_of_not-le, arith, leb-true, le-leb}
use Rattle.std.proofs.Math.Decide.{dec_le}
use Rattle.std.proofs.lemmas.Bool.{false≢true}
use Rattle.std.specs.Prelude.{Option, None, Some, MatchOption}
use Rattle.std.specs.Option.{unwrap_or}
use Rattle.reduction.specs.declared.InfluenceArea.{InfluenceArea}
use Rattle.reduction.specs.declared.share.Share.{Share}
use Rattle.reduction.specs.declared.share.Share.TheVariants.{Root}
use Rattle.reduction.specs.Reduced.{reaches, reduced}
use Rattle.reduction.specs.Scale.{root_scale}
use Rattle.reduction.specs.inner.ShareBounds.{Bounds, Fit, fits}
use Rattle.reduction.proofs.Scales.{scale_fits, fits_scale}
use Rattle.reduction.proofs.Fits.{fit_above, fit_at_most, fit_whole}

module _ (x : InfluenceArea) (some : 1 ≤ x.0) (b : ℕ) (above : root_scale x < b) where
  it_fits : fits x (root_scale x) ≡ true
  it_fits = le-leb _ _ (scale_fits x (le_refl (root_scale x)))

  pub scale_found : (r : Option ℕ)
      → MatchOption r ((k : ℕ) → k < b → fits x k ≡ false) (λ s. (s < b) × (fits x s ≡ true) × ((k : ℕ) → s < k → k < b → fits x k ≡ false))
      → r ≡ Some (root_scale x)
  scale_found None h = absurd (false≢true (sym (h (root_scale x) above) ∙ it_fits))
  scale_found (Some s) h =
      elim (dec_le (root_scale x) s) [
        | yes p ↦ ap Some (le_antisymm (fits_scale x some (leb-true _ _ h.1)) p)
        | no n ↦ absurd (false≢true (sym (h.2 (root_scale x) (lt_of_not-le n) above) ∙ it_fits))
      ]

module _ {s : Share} {load : ℕ} (fit : Fit s load) (b : ℕ) (above : reduced s load ≤ b) where
  pub load_found : (r : Option ℕ)
      → MatchOption r ((k : ℕ) → k < b → reaches s load k ≡ true)
      (λ j. (j < b) × (reaches s load j ≡ false) × ((k : ℕ) → j < k → k < b → reaches s load k ≡ true))
      → MatchOption r (reduced s load ≡ 0) (λ j. reduced s load ≡ j + 1)
  load_found None h =
      elim (dec_le (reduced s load) 0) [
        | yes p ↦ omega (arith, p)
        | no n ↦ absurd (omega (arith, fit_at_most fit (h 0 (omega (arith, lt_of_not-le n, above))), lt_of_not-le n))
      ]
  load_found (Some j) h =
      let low = fit_above fit h.1 in
      elim (dec_le (reduced s load) (j + 1)) [
        | yes p ↦ omega (arith, p, low)
        | no n ↦ absurd (omega (arith, fit_at_most fit (h.2 (j + 1) (omega arith) (omega (arith, lt_of_not-le n, above))), lt_of_not-le n))
      ]

-- a load that is the root's share fits
pub root_fits : (x : InfluenceArea) (load : ℕ) → 3713 ≤ x.0 → x.0 ≤ 92821 → load ≤ 5000 → Fit (Root x) load
unfolding Bounds
root_fits x load low high small = record { bounds = (low, high, small) }

pub raised_found : {s : Share} {load : ℕ} → Fit s load → (from : ℕ) (r : Option ℕ)
    → MatchOption r ((k : ℕ) → from ≤ k → k < load → reaches s load k ≡ false)
    (λ i. (from ≤ i) × (i < load) × (reaches s load i ≡ true) × ((k : ℕ) → from ≤ k → k < i → reaches s load k ≡ false))
    → (reduced s load ≤ unwrap_or r load) × (unwrap_or r load ≤ load)
raised_found {load} fit from None h = (fit_whole fit, le_refl load)
raised_found fit from (Some i) h = (fit_at_most fit h.2, omega (arith, h.1))

-- 0 where there is no number, and else one more
pub one_above : (r : Option ℕ) {n m : ℕ} (P : ℕ → Type 0) → MatchOption r (n ≡ 0) P → ((j : ℕ) → P j → n ≡ j + 1)
    → MatchOption r (m ≡ 0) (λ j. m ≡ j + 1) → n ≡ m
one_above None P h f k = h ∙ sym k
one_above (Some j) P h f k = f j h ∙ sym k
