-- Text as bytes: the words of a text, and numbers in decimal.
-- Assumes nothing.
use Rattle.std.specs.Prelude.{Bool, true, false, List, [], ◌∷◌, ◌++◌, ℕ, zero, suc, ◌+◌, ◌/◌, ◌%◌, ltb, ℤ, pos, negsuc}
use Prim.Native.Char.{code}
use Prim.Native.String.{String, [] as nothing, ◌∷◌ as before}

-- No part of the paper: the bytes of a text of ASCII characters
abbrev pub bytes_of : String → List ℕ
bytes_of nothing = []
bytes_of (before c s) = code c ∷ bytes_of s

-- No part of the paper: texts, one behind the other
unfoldable pub joined : List (List ℕ) → List ℕ
joined [] = []
joined (t ∷ ts) = t ++ joined ts

-- 01, The sheet: "a minus sign"
abbrev pub minus : ℕ
minus = 45

-- No part of the paper: a number below 10 is one digit; else its digits are those of a tenth of it and then the last
unfoldable pub last_digit : Bool → (ℕ → List ℕ) → ℕ → List ℕ
last_digit true digits n = (48 + n) ∷ []
last_digit false digits n = digits (n / 10) ++ ((48 + n % 10) ∷ [])

-- No part of the paper: the decimal digits of a number, with at most so many before the last
unfoldable pub digits_in : ℕ → ℕ → List ℕ
digits_in zero n = (48 + n % 10) ∷ []
digits_in (suc most) n = last_digit (ltb n 10) (digits_in most) n

-- 01, The sheet: a number in decimal digits, with "no needless leading zero"; n has no more than n digits before the last
unfoldable pub decimal : ℕ → List ℕ
decimal n = digits_in n n

-- 01, The sheet: "a minus sign", which stands "never before 0", and then the digits
unfoldable pub signed_parts : ℤ → List (List ℕ)
signed_parts (pos n) = decimal n ∷ []
signed_parts (negsuc n) = (minus ∷ []) ∷ decimal (suc n) ∷ []

-- 01, The sheet: a number with its sign
abbrev pub signed_decimal : ℤ → List ℕ
signed_decimal z = joined (signed_parts z)
