-- How many newlines a text has, of which the theorems about reading speak.
-- Assumes nothing.
use Rattle.std.specs.Prelude.{cond, List, [], ◌∷◌, ℕ, ◌+◌, eqb}
use Rattle.text.specs.Lines.{newline}

-- how many newlines a text has
unfoldable pub newlines : List ℕ → ℕ
newlines [] = 0
newlines (b ∷ bs) = cond (eqb b newline) 1 0 + newlines bs
