-- Squares, and the least number that passes a test.
-- Assumes nothing.
use Rattle.std.specs.Prelude.{Bool, true, false, ℕ, zero, suc, ◌*◌}

-- No part of the paper: a square
abbrev pub sq : ℕ → ℕ
sq a = a * a

-- No part of the paper: the least number from k on, at most d further, that passes the test; k + d where none before it does
unfoldable pub least_from : (ℕ → Bool) → ℕ → ℕ → ℕ
least_from p k zero = k
least_from p k (suc d) = elim (p k) [ true ↦ k | false ↦ least_from p (suc k) d ]
