-- Paper 01, "Figures to check against": the rows marked P, as one table.
-- Assumes nothing.
use Rattle.std.specs.Prelude.{◌≡◌, List, [], ◌∷◌, ℕ}
use Rattle.refusal.specs.Said.{gives}
use Rattle.reduction.specs.declared.InfluenceArea.{InfluenceArea}
use Rattle.reduction.specs.declared.share.Share.TheVariants.{Root}
use Rattle.reduction.specs.Share.{dm²}
use Rattle.reduction.specs.Reduced.{reduced, reduced_of}

-- the column X: a number, every number, or a number at which the formula stands alone, without its cap and its least share
pub data Influence : Type 0 where
  at : ℕ → Influence
  any : Influence
  uncapped : ℕ → Influence

-- load, class, n, X and R
pub data Row : Type 0 where
  row : ℕ → ℕ → ℕ → Influence → ℕ → Row

-- 01, Figures to check against: the rows with P
unfoldable pub figures : List Row
figures =
    row 2000 1 1 (at 3700) 2000
    ∷ row 2000 1 1 (uncapped 3700) 2003
    ∷ row 2000 1 1 (at 3720) 1999
    ∷ row 2000 1 1 (at 6400) 1643
    ∷ row 5000 1 2 (at 10000) 3535
    ∷ row 2000 1 1 (at 33415) 1001
    ∷ row 2000 1 1 (at 33416) 1000
    ∷ row 2000 1 2 (at 92821) 801
    ∷ row 2000 1 2 (at 92822) 800
    ∷ row 2001 1 1 (at 40000) 1001
    ∷ row 5001 1 1 any 5001
    ∷ row 5001 1 2 any 4001
    ∷ row 4000 3 9 any 4000
    ∷ []

-- what a row says
unfoldable pub Says : Row → Type 0
Says (row load class n (at x) r) = reduced_of load class n (dm² x) ≡ gives r
Says (row load class n any r) = (x : InfluenceArea) → reduced_of load class n x ≡ gives r
Says (row load class n (uncapped x) r) = reduced (Root (dm² x)) load ≡ r
