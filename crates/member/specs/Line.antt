-- Paper 01, "Member, line, floor": which lines are reduced by the formula.
-- Assumes nothing.
use Rattle.std.specs.Prelude.{Bool, ◌&&◌, ℕ, leb, eqb}

-- 01, Member, line, floor: a formula line has class 1 and Lo at most 5,000
unfoldable pub is_formula : ℕ → ℕ → Bool
is_formula load class = eqb class 1 && leb load 5000
