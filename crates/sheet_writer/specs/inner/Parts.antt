-- The text of a sheet as the parts that are put one after another, and each of its effects.
-- Assumes nothing.
use Rattle.std.specs.Prelude.{List, [], ◌∷◌, ◌++◌, ℕ, ℤ}
use Rattle.text.specs.Text.{signed_parts}
use Rattle.text.specs.Put.{field_parts}
use Rattle.text.specs.Lines.{newline}
use Rattle.column.specs.declared.Line.{Line}
use Rattle.column.specs.Column.{lines_of}
use Rattle.sheet_lines.specs.Form.{member_keys, floor_keys, effect_keys}
use Rattle.sheet_lines.specs.LineText.{line_numbers}
use Rattle.sheet.specs.declared.Sheet.{Sheet}

-- the member's line, a floor line and all of them
unfoldable pub member_parts : ℕ → List (List ℕ)
member_parts code = field_parts member_keys (code ∷ [])

unfoldable pub line_parts : Line → List (List ℕ)
line_parts x = field_parts floor_keys (line_numbers x)

unfoldable pub floors_parts : List Line → List (List ℕ)
floors_parts [] = []
floors_parts (x ∷ xs) = line_parts x ++ floors_parts xs

-- the line of an effect, and all of them
unfoldable pub effect_parts : List ℕ → ℤ → List (List ℕ)
effect_parts key z = key ∷ (signed_parts z ++ ((newline ∷ []) ∷ []))

unfoldable pub effects_parts : List (List ℕ) → List ℤ → List (List ℕ)
effects_parts (key ∷ keys) (z ∷ zs) = effect_parts key z ++ effects_parts keys zs
effects_parts (key ∷ keys) [] = []
effects_parts [] zs = []

-- the whole sheet
unfoldable pub sheet_parts : Sheet → List (List ℕ)
sheet_parts s = member_parts s.column.member.code ++ (floors_parts (lines_of s.column) ++ effects_parts effect_keys s.effects)
