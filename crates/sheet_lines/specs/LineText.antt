-- Paper 01, "The sheet": the text of each line, without its newline, as a writer writes it.
-- Assumes nothing.
use Rattle.std.specs.Prelude.{List, [], ◌∷◌, ◌++◌, ℕ, ℤ}
use Rattle.text.specs.Text.{decimal, signed_decimal}
use Rattle.column.specs.declared.Line.{Line}
use Rattle.sheet_lines.specs.Form.{member_keys, floor_keys}

-- 01, The sheet: numbers, each behind its key
unfoldable pub fields_text : List (List ℕ) → List ℕ → List ℕ
fields_text (key ∷ keys) (n ∷ ns) = key ++ (decimal n ++ fields_text keys ns)
fields_text (key ∷ keys) [] = []
fields_text [] ns = []

-- 01, The sheet: `member`
unfoldable pub member_text : ℕ → List ℕ
member_text code = fields_text member_keys (code ∷ [])

-- 01, Member, line, floor: the "four decimal numbers" of a line
unfoldable pub line_numbers : Line → List ℕ
line_numbers x = x.floor ∷ x.class ∷ x.load ∷ x.area.0 ∷ []

-- 01, The sheet: a floor line
unfoldable pub floor_text : Line → List ℕ
floor_text x = fields_text floor_keys (line_numbers x)

-- 01, The sheet: an effect; "a minus sign may stand only in the last six"
unfoldable pub effect_text : List ℕ → ℤ → List ℕ
effect_text key z = key ++ signed_decimal z
