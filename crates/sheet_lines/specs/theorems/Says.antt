-- Paper 01, "The sheet": what a line's text says.
-- Assumes nothing.
use Rattle.std.specs.Prelude.{◌≡◌, List, [], ℕ, ◌<◌, ℤ, get_or}
use Rattle.column.specs.declared.Line.{Line}
use Rattle.sheet_lines.specs.declared.Due.{Due}
use Rattle.sheet_lines.specs.declared.Due.TheVariants as D
use Rattle.sheet_lines.specs.declared.Form.{Form}
use Rattle.sheet_lines.specs.declared.Form.TheVariants as F
use Rattle.sheet_lines.specs.Form.{effect_keys, effect_count}
use Rattle.sheet_lines.specs.LineText.{member_text, floor_text, effect_text}

-- the key at a place of a list
abbrev pub key_at : List (List ℕ) → ℕ → List ℕ
key_at keys k = get_or keys k []

-- 01, The sheet: a text says a floor line
pub data SaysFloor (l : List ℕ) (x : Line) : Type 0 where
  as_written : l ≡ floor_text x → SaysFloor l x

-- 01, The sheet: where this is due, a text says this
pub data Says (due : Due) (l : List ℕ) (f : Form) : Type 0 where
  member : (code : ℕ) → due ≡ D.Member → f ≡ F.Member code → l ≡ member_text code → Says due l f
  floor : (x : Line) → due ≡ D.Effect 0 → f ≡ F.Floor x → SaysFloor l x → Says due l f
  effect : (k : ℕ) (z : ℤ) → k < effect_count → due ≡ D.Effect k → f ≡ F.Effect k z → l ≡ effect_text (key_at effect_keys k) z → Says due l f
