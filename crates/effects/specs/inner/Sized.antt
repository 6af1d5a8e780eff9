-- What keeps every product and sum within 64 bits: private functions ask it, and laws say it.
-- Assumes nothing.
use Rattle.std.specs.Prelude.{◌≡◌, List, ℕ, ◌≤◌, ℤ, pos, nat_abs, length, get_or}

-- each number of a list is at most so large in size
abbrev pub EachAtMost : ℕ → List ℤ → Type 0
EachAtMost most xs = (i : ℕ) → nat_abs (get_or xs i (pos 0)) ≤ most

-- so many numbers, each at most so large in size
pub record Sized (n most : ℕ) (xs : List ℤ) : Type 0 where
  pub count : length xs ≡ n
  pub each : EachAtMost most xs

-- seven of them, as there are effects and factors
abbrev pub Seven : ℕ → List ℤ → Type 0
Seven most xs = Sized 7 most xs
