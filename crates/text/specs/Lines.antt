-- Paper 01, "The sheet": a text as lines, "each ended by one newline byte (10)".
-- Assumes nothing.
use Rattle.std.specs.Prelude.{Bool, true, false, cond, List, [], ◌∷◌, ◌++◌, ℕ, suc, ◌+◌, eqb, drop}

-- 01, The sheet: "one newline byte (10)", which ends a line
abbrev pub newline : ℕ
newline = 10

-- 01, The sheet: a line, "ended by one newline byte (10)"
abbrev pub ended : List ℕ → List ℕ
ended l = l ++ (newline ∷ [])

-- 01, The sheet: the text of lines, "each ended by one newline byte (10)"
unfoldable pub text_of : List (List ℕ) → List ℕ
text_of [] = []
text_of (l ∷ ls) = ended l ++ text_of ls

-- 01, The sheet: a line and the lines after its newline; or what stands after the last newline, nothing or an unended line
pub data Lines : Type 0 where
  line : List ℕ → Lines → Lines
  rest : List ℕ → Lines

-- No part of the paper: one byte more in front of the first line
unfoldable pub with_byte : ℕ → Lines → Lines
with_byte b (line l ls) = line (b ∷ l) ls
with_byte b (rest l) = rest (b ∷ l)

-- 01, The sheet: the lines of a text; only byte 10 ends one
unfoldable pub split : List ℕ → Lines
split [] = rest []
split (b ∷ bs) = cond (eqb b newline) (line [] (split bs)) (with_byte b (split bs))

-- No part of the paper: a place is the first where the byte there is the one looked for, and else one more than the first behind it
unfoldable pub index_after : Bool → ℕ → ℕ
index_after true n = 0
index_after false n = suc n

-- No part of the paper: the place of the first such byte; the length where there is none
unfoldable pub index_of : ℕ → List ℕ → ℕ
index_of b [] = 0
index_of b (x ∷ xs) = index_after (eqb x b) (index_of b xs)

-- 01, The sheet: where a line ends, the place of the first newline from a place on; the end of the text where there is none
unfoldable pub end_from : List ℕ → ℕ → ℕ
end_from text at = at + index_of newline (drop at text)
