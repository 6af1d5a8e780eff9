-- Paper 01, "The sheet": which lines say a sheet.
-- Assumes nothing.
use Rattle.std.specs.Prelude.{◌≡◌, List, [], ◌∷◌, ◌++◌, ℕ, take}
use Rattle.column.specs.declared.Line.{Line}
use Rattle.column.specs.Column.{lines_of}
use Rattle.sheet_lines.specs.declared.Due.{Due}
use Rattle.sheet_lines.specs.declared.Due.TheVariants as D
use Rattle.sheet_lines.specs.Form.{effect_keys, effect_count}
use Rattle.sheet_lines.specs.LineText.{member_text}
use Rattle.sheet_lines.specs.theorems.Says.{SaysFloor}
use Rattle.sheet.specs.declared.Sheet.{Sheet}
use Rattle.sheet_text.specs.Written.{effect_lines}

-- 01, The sheet: `member`; then these lines; then the effects before a place
unfoldable pub lines_with : List (List ℕ) → ℕ → Sheet → List (List ℕ)
lines_with floors k s = member_text s.column.member.code ∷ (floors ++ take k (effect_lines effect_keys s.effects))

-- 01, The sheet: "no or more" lines say floor lines, one each
pub data SayFloors : List (List ℕ) → List Line → Type 0 where
  no_line : SayFloors [] []
  and_line : {l : List ℕ} {x : Line} {ls : List (List ℕ)} {xs : List Line} → SaysFloor l x → SayFloors ls xs → SayFloors (l ∷ ls) (x ∷ xs)

-- 01, The sheet: lines say what a sheet has before the effect at a place
pub record SayWith (k : ℕ) (s : Sheet) (ls : List (List ℕ)) : Type 0 where
  pub floors : List (List ℕ)
  pub say : SayFloors floors (lines_of s.column)
  pub all : ls ≡ lines_with floors k s

-- 01, The sheet: lines say what a sheet has before the line that is due; and a whole sheet
unfoldable pub SayBefore : Due → Sheet → List (List ℕ) → Type 0
SayBefore D.Member s ls = ls ≡ []
SayBefore (D.Effect k) s ls = SayWith k s ls

abbrev pub Say : Sheet → List (List ℕ) → Type 0
Say s ls = SayWith effect_count s ls
