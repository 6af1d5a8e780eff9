-- Laws of the reduced load: it reaches, nothing below it does, and it is at most the load.
-- Assumes nothing.
use Rattle.std.proofs.Common.{◌≡◌, refl, sym, ◌∙◌, Bool, true, false, ◌&&◌, ◌||◌, ℕ, ◌*◌, ◌-◌, ◌≤◌, ◌<◌, mul-le-mul_left, mul-le-mul_right, zero-add, le_refl, le_trans, lt_of_not-le, arith, leb-true, le-leb}
use Rattle.std.proofs.lemmas.Bool.{and_parts, and_from}
use Rattle.std.proofs.Math.Decide.{dec_le}
use Rattle.std.proofs.lemmas.Bool.{false≢true}
use Rattle.refusal.specs.Said.{gives}
use Rattle.reduction.specs.declared.InfluenceArea.{InfluenceArea}
use Rattle.reduction.specs.declared.share.Share.{Share}
use Rattle.reduction.specs.declared.share.Share.TheVariants.{Twentieths, Root}
use Rattle.member.specs.Between.{between}
use Rattle.reduction.specs.Share.{least_twentieths, share_of}
use Rattle.reduction.specs.theorems.Rounding.{AtMostOne}
use Rattle.reduction.specs.Reduced.{reaches, reduced, reduced_of}
use Rattle.reduction.specs.theorems.Rounding.{Least, Clamped}
use Rattle.reduction.proofs.Squares.{sq_le}
use Rattle.reduction.proofs.Least.{found, none}
use Rattle.reduction.proofs.Root.{reaches_root, reaches_twentieths, not_at_least, not_at_most}
use Rattle.reduction.proofs.Shares.{formula_cases, least_within, share_at_most_one}

-- a number above one that reaches does
pub reaches_more : (s : Share) (load r r' : ℕ) → r ≤ r' → reaches s load r ≡ true → reaches s load r' ≡ true
unfolding reaches
reaches_more (Twentieths k) load r r' h e = le-leb _ _ (le_trans (leb-true _ _ e) (mul-le-mul_left 20 h))
reaches_more (Root x) load r r' h e =
    let both = and_parts _ _ e in
    let low : load ≤ 4 * r = leb-true _ _ both.0 in
    let gap : 4 * r - load ≤ 4 * r' - load = omega arith in
    and_from _ _ (le-leb load (4 * r') (omega arith)) (le-leb _ _ (le_trans (leb-true _ _ both.1) (mul-le-mul_left (25 * x.0) (sq_le gap))))

-- a larger share is harder to reach
twentieths_less : (j k load r : ℕ) → j ≤ k → reaches (Twentieths k) load r ≡ true → reaches (Twentieths j) load r ≡ true
unfolding reaches
twentieths_less j k load r h e = le-leb _ _ (le_trans (mul-le-mul_right load h) (leb-true _ _ e))

whole : (load : ℕ) → reaches (Twentieths 20) load load ≡ true
unfolding reaches
whole load = le-leb _ _ (le_refl (20 * load))

-- the load itself reaches every share that is at most 1
pub whole_reaches : (s : Share) (load : ℕ) → AtMostOne s → reaches s load load ≡ true
unfolding AtMostOne
whole_reaches (Twentieths k) load h = twentieths_less k 20 load load h (whole load)
whole_reaches (Root x) load h = reaches_root 20 x load load h (whole load)

module _ (s : Share) (load : ℕ) (h : AtMostOne s) where
  pub reduced_reaches : reaches s load (reduced s load) ≡ true
  unfolding reduced
  reduced_reaches =
      found (reaches s load) 0 (46 * load)
      (rw (zero-add (46 * load)) (reaches_more s load load (46 * load) (omega arith) (whole_reaches s load h)))

  pub below_does_not : (j : ℕ) → j < reduced s load → reaches s load j ≡ false
  unfolding reduced
  below_does_not j l = none (reaches s load) 0 (46 * load) j (omega arith) l

  -- what reaches is not below the reduced load
  pub at_most : (j : ℕ) → reaches s load j ≡ true → reduced s load ≤ j
  at_most j e =
      elim (dec_le (reduced s load) j) [
        | yes p ↦ p
        | no n ↦ absurd (false≢true (sym (below_does_not j (lt_of_not-le n)) ∙ e))
      ]

  -- what does not reach is below it
  pub above : (j : ℕ) → reaches s load j ≡ false → j < reduced s load
  above j e =
      elim (dec_le (reduced s load) j) [
        | yes p ↦ absurd (false≢true (sym e ∙ reaches_more s load (reduced s load) j p reduced_reaches))
        | no n ↦ lt_of_not-le n
      ]

  pub reduced_at_most_load : reduced s load ≤ load
  reduced_at_most_load = at_most load (whole_reaches s load h)

-- R of every line is the least whole number not below share × Lo
pub line_least : (load class n : ℕ) (x : InfluenceArea) → Least (share_of load class n x) load (reduced (share_of load class n x) load)
line_least load class n x =
    record {
      reached = reduced_reaches (share_of load class n x) load (share_at_most_one load class n x);
      none_below = below_does_not (share_of load class n x) load (share_at_most_one load class n x);
    }

-- What the cases of the formula's share come to: r reaches the least of 1 and the greater of the least share and the root.
module _ (n : ℕ) (x : InfluenceArea) (load r : ℕ) where
  abbrev As : Bool → Type 0
  As b = b ≡ (reaches (Twentieths 20) load r || reaches (Twentieths (least_twentieths n)) load r && reaches (Root x) load r)

  pub clamped : Clamped n x load r
  clamped =
      formula_cases (λ (s : Share). As (reaches s load r)) n x
      (λ c. capped _ (reaches (Twentieths (least_twentieths n)) load r) _ (reaches_twentieths 20 x load r c))
      (λ _ h. held _ _ _ (twentieths_less _ 20 load r (omega (arith, least_within n))) (reaches_root _ x load r h))
      (λ c h. between _ _ _ (reaches_root 20 x load r (not_at_least 20 x c)) (reaches_twentieths _ x load r (not_at_most _ x h)))
    where
      capped : (a b c : Bool) → (c ≡ true → a ≡ true) → a ≡ (a || b && c)
      capped true b c f = refl
      capped false b true f = absurd (false≢true (f refl))
      capped false true false f = refl
      capped false false false f = refl

      held : (a b c : Bool) → (a ≡ true → b ≡ true) → (b ≡ true → c ≡ true) → b ≡ (a || b && c)
      held true b c f g = f refl
      held false true c f g = sym (g refl)
      held false false c f g = refl

      between : (a b c : Bool) → (a ≡ true → c ≡ true) → (c ≡ true → b ≡ true) → c ≡ (a || b && c)
      between true b c f g = f refl
      between false b true f g = rw (g refl)
      between false true false f g = refl
      between false false false f g = refl

-- a load and a class within their limits have their reduced load
pub reduced_known : (load class n : ℕ) (x : InfluenceArea) → between 1 3 class ≡ true → between 1 50000 load ≡ true
    → reduced_of load class n x ≡ gives (reduced (share_of load class n x) load)
unfolding reduced_of
reduced_known load class n x c l = rw (c, l)
