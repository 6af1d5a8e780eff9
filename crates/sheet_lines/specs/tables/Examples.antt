-- Paper 01, "The sheet": the lines of the sample sheet, each with what is due there and what it says.
-- Assumes nothing.
use Rattle.std.specs.Prelude.{◌≡◌, List, [], ◌∷◌, pos, neg_ℤ}
use Prim.Native.String.{String}
use Rattle.text.specs.Text.{bytes_of}
use Rattle.refusal.specs.Said.{Said, gives, refused, nothing}
use Rattle.column.specs.Line.{line}
use Rattle.sheet_lines.specs.declared.Due.{Due}
use Rattle.sheet_lines.specs.declared.Due.TheVariants as D
use Rattle.sheet_lines.specs.declared.Form.{Form}
use Rattle.sheet_lines.specs.declared.Form.TheVariants as F
use Rattle.sheet_lines.specs.Form.{line_said}

-- a line, and what it says where this is due, or its number
pub record Example : Type 0 where
  pub due : Due
  pub line : String
  pub said : Said Form

abbrev example : Due → String → Said Form → Example
example due line said = record { due = due; line = line; said = said }

-- 01, The sheet: the sample, whose keys are the paper's own; a minus sign, which "may stand only in the last six"; and lines
-- that have "not the form above"
unfoldable pub examples : List Example
examples =
    example D.Member "member=1" (gives (F.Member 1))
    ∷ example (D.Effect 0) "floor=2 class=1 load=2000 area=1600" (gives (F.Floor (line 2 1 2000 1600)))
    ∷ example (D.Effect 0) "dead=100000" (gives (F.Effect 0 (pos 100000)))
    ∷ example (D.Effect 1) "roof=0" (gives (F.Effect 1 (pos 0)))
    ∷ example (D.Effect 2) "snow=0" (gives (F.Effect 2 (pos 0)))
    ∷ example (D.Effect 3) "rain=0" (gives (F.Effect 3 (pos 0)))
    ∷ example (D.Effect 4) "wind=-60000" (gives (F.Effect 4 (neg_ℤ (pos 60000))))
    ∷ example (D.Effect 5) "quake=0" (gives (F.Effect 5 (pos 0)))
    ∷ example D.Member "member=-1" (refused 10 nothing)
    ∷ example (D.Effect 4) "quake=0" (refused 10 nothing)
    ∷ example (D.Effect 6) "" (refused 10 nothing)
    ∷ []

-- a line says this
abbrev pub Holds : Example → Type 0
Holds x = line_said x.due (bytes_of x.line) ≡ x.said
