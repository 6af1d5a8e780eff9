-- The cases of a share, and that no share is above 1.
-- Assumes nothing.
use Rattle.std.proofs.Common.{◌≡◌, refl, ◌∙◌, Bool, true, false, cond, ℕ, ◌≤◌, ◌<◌, le_refl, arith, eqb, le-leb}
use Rattle.std.proofs.lemmas.Bool.{lt-leb}
use Rattle.reduction.specs.declared.InfluenceArea.{InfluenceArea}
use Rattle.reduction.specs.declared.share.Share.{Share}
use Rattle.reduction.specs.declared.share.Share.TheVariants.{Twentieths, Root}
use Rattle.reduction.specs.Share.{one_floor, root_at_least, root_at_most, least_twentieths, formula_share, heavy_twentieths, other_twentieths, share_of}
use Rattle.reduction.specs.theorems.Rounding.{AtMostOne}
use Rattle.member.specs.Line.{is_formula}
use Rattle.reduction.proofs.Root.{not_at_least, cap_last, half_first, two_fifths_first}

-- The share of formula lines: capped at 1; past the cap, where the least share is k/20, that or the root.
pub formula_capped : (n : ℕ) (x : InfluenceArea) → x.0 ≤ 3712 → Twentieths 20 ≡ formula_share n x
unfolding formula_share
formula_capped n x h = rw (cap_last x, le-leb x.0 3712 h)

pub formula_past : (n : ℕ) (x : InfluenceArea) (k : ℕ) (b : Bool) → least_twentieths n ≡ k → 3712 < x.0 → root_at_most k x ≡ b
    → cond b (Twentieths k) (Root x) ≡ formula_share n x
unfolding formula_share
formula_past n x k b least past h = rw (cap_last x, lt-leb x.0 3712 past, least, h)

pub least_one : (n : ℕ) → n ≤ 1 → least_twentieths n ≡ 10
unfolding least_twentieths one_floor
least_one n h = rw (le-leb n 1 h)

pub least_more : (n : ℕ) → 1 < n → least_twentieths n ≡ 8
unfolding least_twentieths one_floor
least_more n h = rw (lt-leb n 1 h)

module _ (n : ℕ) (x : InfluenceArea) (past : 3712 < x.0) where
  pub one_held : n ≤ 1 → 33416 ≤ x.0 → Twentieths 10 ≡ formula_share n x
  one_held one h = formula_past n x 10 true (least_one n one) past (half_first x ∙ le-leb 33416 x.0 h)

  pub one_root : n ≤ 1 → x.0 < 33416 → Root x ≡ formula_share n x
  one_root one h = formula_past n x 10 false (least_one n one) past (half_first x ∙ lt-leb 33416 x.0 h)

  pub more_held : 1 < n → 92822 ≤ x.0 → Twentieths 8 ≡ formula_share n x
  more_held more h = formula_past n x 8 true (least_more n more) past (two_fifths_first x ∙ le-leb 92822 x.0 h)

  pub more_root : 1 < n → x.0 < 92822 → Root x ≡ formula_share n x
  more_root more h = formula_past n x 8 false (least_more n more) past (two_fifths_first x ∙ lt-leb 92822 x.0 h)

-- What holds of the share of formula lines: capped at 1, held at the least share, or the root between them.
module _ (P : Share → Type 0) (n : ℕ) (x : InfluenceArea) where
  pub formula_cases :
      (root_at_least 20 x ≡ true → P (Twentieths 20))
      → (root_at_least 20 x ≡ false → root_at_most (least_twentieths n) x ≡ true → P (Twentieths (least_twentieths n)))
      → (root_at_least 20 x ≡ false → root_at_most (least_twentieths n) x ≡ false → P (Root x)) → P (formula_share n x)
  unfolding formula_share
  formula_cases capped held between = go (root_at_least 20 x) refl (root_at_most (least_twentieths n) x) refl
    where
      go : (c : Bool) → root_at_least 20 x ≡ c → (h : Bool) → root_at_most (least_twentieths n) x ≡ h
          → P (cond c (Twentieths 20) (cond h (Twentieths (least_twentieths n)) (Root x)))
      go true e h f = capped e
      go false e true f = held e f
      go false e false f = between e f

-- What holds of the share of a line: that of the formula lines, or so many twentieths.
pub share_cases : (P : Share → Type 0) (load class n : ℕ) (x : InfluenceArea)
    → (is_formula load class ≡ true → P (formula_share n x))
    → (is_formula load class ≡ false → P (Twentieths (other_twentieths class n))) → P (share_of load class n x)
unfolding share_of
share_cases P load class n x formula other = go (is_formula load class) refl
  where
    go : (b : Bool) → is_formula load class ≡ b → P (cond b (formula_share n x) (Twentieths (other_twentieths class n)))
    go true e = formula e
    go false e = other e

-- the least share is 8 or 10 twentieths, the others 16 or 20
cond_within : (b : Bool) (l h : ℕ) → l ≤ h → (l ≤ cond b h l) × (cond b h l ≤ h)
cond_within true l h o = (o, le_refl h)
cond_within false l h o = (le_refl l, o)

pub least_within : (n : ℕ) → (8 ≤ least_twentieths n) × (least_twentieths n ≤ 10)
unfolding least_twentieths
least_within n = cond_within (one_floor n) 8 10 (omega arith)

pub heavy_within : (n : ℕ) → (16 ≤ heavy_twentieths n) × (heavy_twentieths n ≤ 20)
heavy_within n = cond_within (one_floor n) 16 20 (omega arith)

pub other_within : (class n : ℕ) → (16 ≤ other_twentieths class n) × (other_twentieths class n ≤ 20)
unfolding other_twentieths
other_within class n = go (eqb class 3)
  where
    go : (b : Bool) → (16 ≤ cond b 20 (heavy_twentieths n)) × (cond b 20 (heavy_twentieths n) ≤ 20)
    go true = (omega arith, omega arith)
    go false = heavy_within n

-- no share is above 1
pub formula_at_most_one : (n : ℕ) (x : InfluenceArea) → AtMostOne (formula_share n x)
unfolding AtMostOne
formula_at_most_one n x =
    formula_cases AtMostOne n x (λ _. omega arith) (λ _ _. omega (arith, least_within n)) (λ e _. not_at_least 20 x e)

pub share_at_most_one : (load class n : ℕ) (x : InfluenceArea) → AtMostOne (share_of load class n x)
unfolding AtMostOne
share_at_most_one load class n x =
    share_cases AtMostOne load class n x (λ _. formula_at_most_one n x) (λ _. (other_within class n).1)
