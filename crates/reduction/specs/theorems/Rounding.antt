-- Paper 01, "Reduced load and figure": what R and the share are, said of the definitions that compute them.
-- Assumes nothing.
use Rattle.std.specs.Prelude.{◌≡◌, true, false, ◌&&◌, ◌||◌, ℕ, ◌<◌, ◌≤◌}
use Rattle.reduction.specs.declared.InfluenceArea.{InfluenceArea}
use Rattle.reduction.specs.declared.share.Share.{Share}
use Rattle.reduction.specs.declared.share.Share.TheVariants.{Twentieths, Root}
use Rattle.reduction.specs.Share.{least_twentieths, formula_share, root_at_most}
use Rattle.reduction.specs.Reduced.{reaches}

-- 01, Reduced load and figure: r is the least whole number not below share × Lo
pub record Least (s : Share) (load r : ℕ) : Type 0 where
  pub reached : reaches s load r ≡ true
  pub none_below : (j : ℕ) → j < r → reaches s load j ≡ false

-- 01, Reduced load and figure: the share, "at most 1, and at least 1/2 where n is 1, 2/5 where n is 2 or more": r is not below
-- share × Lo exactly where it is not below Lo, or not below both the least share × Lo and (1/4 + 45.7/√X) × Lo
abbrev pub Clamped : ℕ → InfluenceArea → ℕ → ℕ → Type 0
Clamped n x load r =
    reaches (formula_share n x) load r
    ≡ (reaches (Twentieths 20) load r || reaches (Twentieths (least_twentieths n)) load r && reaches (Root x) load r)

-- 01, Reduced load and figure: a share is at most 1
unfoldable pub AtMostOne : Share → Type 0
AtMostOne (Twentieths k) = k ≤ 20
AtMostOne (Root x) = root_at_most 20 x ≡ true
