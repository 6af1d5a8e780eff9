-- What a test of two sums decides, greatest or least.
-- Assumes nothing.
use Rattle.std.specs.Prelude.{◌≡◌, Bool, ℤ, FitsSigned}
use Rattle.std.specs.Int.{w64}

-- 01, Effects and the 25 combinations: what a test of two sums of 64 bits gives is what a definition says of them
abbrev pub Tests : (ℤ → ℤ → Bool → Type 0) → (ℤ → ℤ → Bool) → Type 0
Tests gives test = (a b : ℤ) (r : Bool) → FitsSigned w64 a → FitsSigned w64 b → gives a b r → r ≡ test a b
