-- Paper 01, "The sheet": a number, and a key in front of it, at a place of a line.
-- Assumes nothing.
use Rattle.std.specs.Prelude.{Bool, true, false, cond, List, [], ◌∷◌, ℕ, ◌+◌, ◌-◌, ◌*◌, ltb, eqb, length, drop, Option, Some, None}
use Rattle.sheet_lines.specs.declared.number.Read.{Read}

-- 01, The sheet: "1 to 13 decimal digits and no needless leading zero"; whether a digit may follow so many of this value
unfoldable pub may_grow : ℕ → ℕ → Bool
may_grow count value = cond (eqb count 0) true (cond (eqb value 0) false (ltb count 13))

-- 01, The sheet: the digits have ended at a place: a number, if there was a digit
unfoldable pub number_ended : ℕ → ℕ → ℕ → Option Read
number_ended count value next = cond (eqb count 0) None (Some (record { value = value; next = next }))

-- 01, The sheet: reads on in a number: so many digits of this value stand before a place, and these bytes from it on
unfoldable pub number_from : ℕ → ℕ → ℕ → List ℕ → Option Read
number_from count value next [] = number_ended count value next
number_from count value next (b ∷ bs) =
    cond (ltb b 48) (number_ended count value next)
    (cond (ltb 57 b) (number_ended count value next)
    (cond (may_grow count value)
    (number_from (count + 1) (value * 10 + (b - 48)) (next + 1) bs)
    None))

-- 01, The sheet: the number at a place of a line, and the place after it
unfoldable pub number_at : List ℕ → ℕ → Option Read
number_at line at = number_from 0 0 at (drop at line)

-- No part of the paper: a text begins with a key
unfoldable pub begins : List ℕ → List ℕ → Bool
begins [] bs = true
begins (k ∷ ks) [] = false
begins (k ∷ ks) (b ∷ bs) = cond (eqb b k) (begins ks bs) false

-- 01, The sheet: key=value at a place of a line, and the place after it
unfoldable pub field_at : List ℕ → List ℕ → ℕ → Option Read
field_at key line at = cond (begins key (drop at line)) (number_at line (at + length key)) None
