-- Paper 01, "The sheet": the lines of a sheet, and its text as a writer writes it.
-- Assumes nothing.
use Rattle.std.specs.Prelude.{List, [], ◌∷◌, ◌++◌, map, ℕ, ℤ}
use Rattle.text.specs.Lines.{text_of}
use Rattle.column.specs.Column.{lines_of}
use Rattle.sheet_lines.specs.Form.{effect_keys}
use Rattle.sheet_lines.specs.LineText.{member_text, floor_text, effect_text}
use Rattle.sheet.specs.declared.Sheet.{Sheet}

-- 01, The sheet: effects, each behind its key, "one a line"
unfoldable pub effect_lines : List (List ℕ) → List ℤ → List (List ℕ)
effect_lines (key ∷ keys) (z ∷ zs) = effect_text key z ∷ effect_lines keys zs
effect_lines (key ∷ keys) [] = []
effect_lines [] zs = []

-- 01, The sheet: `member`; then no or more lines `floor class load area`; then `dead roof snow rain wind quake`
unfoldable pub lines_in : Sheet → List (List ℕ)
lines_in s = member_text s.column.member.code ∷ (map floor_text (lines_of s.column) ++ effect_lines effect_keys s.effects)

-- 02, CR 2: the sheet of a column and six effects: its lines, each ended by a newline
unfoldable pub written : Sheet → List ℕ
written s = text_of (lines_in s)
