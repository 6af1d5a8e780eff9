-- Whether a number is within its limits.
-- Assumes nothing.
use Rattle.std.specs.Prelude.{Bool, ◌&&◌, ℕ, leb}

-- 01, Numbers by the place of checking: "1 to 12", "1 to 64" and the others: n is from low to high
abbrev pub between : ℕ → ℕ → ℕ → Bool
between low high n = leb low n && leb n high
