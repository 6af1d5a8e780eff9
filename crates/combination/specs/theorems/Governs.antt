-- Paper 01, "Effects and the 25 combinations": what governing means.
-- Assumes nothing.
use Rattle.std.specs.Prelude.{◌≡◌, Bool, true, false, List, ℕ, suc, ◌<◌, ℤ, pos, length, get_or}
use Rattle.combination.specs.declared.Governing.{Governing}
use Rattle.combination.specs.Governing.{greater, less}

-- what governing means, said of a row and its sum among the first n rows:
-- the sum is its row's, no row beats it, and it beats every lower row.
-- The sum of row i + 1 stands at the index i.
pub record GovernsFirst (beats : ℤ → ℤ → Bool) (ss : List ℤ) (n row : ℕ) (sum : ℤ) : Type 0 where
  pub index : ℕ
  pub among : index < n
  pub row_is : row ≡ suc index
  pub sum_is : sum ≡ get_or ss index (pos 0)
  pub unbeaten : (i : ℕ) → i < n → beats (get_or ss i (pos 0)) sum ≡ false
  pub lowest : (i : ℕ) → i < index → beats sum (get_or ss i (pos 0)) ≡ true

-- 01, Effects and the 25 combinations: what governing means, over all rows
abbrev pub Governs : (ℤ → ℤ → Bool) → List ℤ → ℕ → ℤ → Type 0
Governs beats ss row sum = GovernsFirst beats ss (length ss) row sum

-- 01, Effects and the 25 combinations: what the governing rows mean, over all rows
pub record RowsGovern (high low : List ℤ) (g : Governing) : Type 0 where
  pub greatest : Governs greater high g.greatest.row g.greatest.tenths
  pub least : Governs less low g.least.row g.least.tenths
