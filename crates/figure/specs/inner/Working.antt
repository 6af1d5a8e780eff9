-- n, X and the figure as three numbers.
-- Assumes nothing.
use Rattle.std.specs.Prelude.{ℕ}
use Rattle.figure.specs.declared.Working.{Working}

-- 01, Member, line, floor and Reduced load and figure: n, X "in dm²" and the figure, as numbers
abbrev pub working_from : ℕ → ℕ → ℕ → Working
working_from n x figure = record { floors = n; influence = record { 0 = x }; figure = figure }
