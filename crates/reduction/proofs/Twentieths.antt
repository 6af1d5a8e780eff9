-- Shares of so many twentieths: which lines have one, and what it comes to, rounded up.
-- Assumes nothing.
use Rattle.std.proofs.Common.{◌≡◌, ◌∙◌, true, false, ℕ, ◌+◌, ◌*◌, ◌/◌, ◌≤◌, le_antisymm, arith, leb-true, le-leb}
use Rattle.std.specs.Prelude.{Some}
use Rattle.reduction.specs.declared.InfluenceArea.{InfluenceArea}
use Rattle.reduction.specs.declared.share.Share.{Share}
use Rattle.reduction.specs.declared.share.Share.TheVariants.{Twentieths, Root}
use Rattle.member.specs.Line.{is_formula}
use Rattle.reduction.specs.Share.{formula_share, clamped_share, clamped_of, other_twentieths, share_of}
use Rattle.reduction.specs.theorems.Rounding.{AtMostOne}
use Rattle.reduction.specs.Reduced.{reaches, reduced}
use Rattle.reduction.proofs.Shares.{formula_at_most_one}
use Rattle.reduction.proofs.Reduced.{reduced_reaches, at_most}

-- a formula line has the formula's share
pub share_formula : (load class n : ℕ) (x : InfluenceArea) → is_formula load class ≡ true → share_of load class n x ≡ formula_share n x
unfolding share_of
share_formula load class n x e = rw e

-- a line that the formula is not for has so many twentieths
pub share_other : (load class n : ℕ) (x : InfluenceArea) → is_formula load class ≡ false
    → share_of load class n x ≡ Twentieths (other_twentieths class n)
unfolding share_of
share_other load class n x e = rw e

clamped_as : (s : Share) {k : ℕ} → clamped_share s ≡ Some k → s ≡ Twentieths k
unfolding clamped_share
clamped_as (Twentieths k) e = cc
clamped_as (Root x) e = cc

-- where the formula lines' share is clamped, it is so many twentieths, at most 20
pub clamped_is : (n : ℕ) (x : InfluenceArea) {k : ℕ} → clamped_of n x ≡ Some k → formula_share n x ≡ Twentieths k
unfolding clamped_of
clamped_is n x e = clamped_as (formula_share n x) e

pub clamped_most : (n : ℕ) (x : InfluenceArea) {k : ℕ} → clamped_of n x ≡ Some k → k ≤ 20
unfolding AtMostOne
clamped_most n x e = rw (clamped_is n x e) at (formula_at_most_one n x)

-- and so has a formula line
pub share_clamped : (load class n : ℕ) (x : InfluenceArea) {k : ℕ} → is_formula load class ≡ true → clamped_of n x ≡ Some k
    → share_of load class n x ≡ Twentieths k
share_clamped load class n x f e = share_formula load class n x f ∙ clamped_is n x e

-- the least r with k × load ≤ 20 r
pub twentieths_least : (k load : ℕ) → k ≤ 20 → reduced (Twentieths k) load ≡ (k * load + 19) / 20
unfolding AtMostOne reaches
twentieths_least k load h =
    le_antisymm
    (at_most (Twentieths k) load h ((k * load + 19) / 20) (le-leb (k * load) (20 * ((k * load + 19) / 20)) (omega arith)))
    (omega (arith, leb-true (k * load) (20 * reduced (Twentieths k) load) (reduced_reaches (Twentieths k) load h)))
