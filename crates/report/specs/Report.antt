-- Paper 01, "The sheet": what the program takedown prints.
-- Assumes nothing.
use Rattle.std.specs.Prelude.{cond, List, [], ◌∷◌, ◌++◌, ℕ, zero, suc, ◌+◌, ◌/◌, eqb, ℤ, pos, length, get_or, Result, Ok, Err}
use Rattle.text.specs.Text.{bytes_of, joined, decimal, signed_parts}
use Rattle.text.specs.Lines.{newline}
use Rattle.refusal.specs.declared.Refused.{Refused}
use Rattle.refusal.specs.Refusal.{number_of}
use Rattle.refusal.specs.Said.{Said, gives, refused}
use Rattle.column.specs.declared.Column.{Column}
use Rattle.figure.specs.declared.Working.{Working}
use Rattle.column.specs.Line.{lowest_floor}
use Rattle.column.specs.Column.{lines_of}
use Rattle.figure.specs.Asked.{asked}
use Rattle.figure.specs.Lowest.{lowest_figure}
use Rattle.effects.specs.declared.PerLoad.{PerLoad}
use Rattle.effects.specs.Check.{newtons_of}
use Rattle.combination.specs.declared.GoverningRow.{GoverningRow}
use Rattle.combination.specs.declared.Governing.{Governing}
use Rattle.combination.specs.Combine.{governing}
use Rattle.sheet.specs.declared.Sheet.{Sheet}
use Rattle.sheet.specs.Sheet.{read_sheet}
use Rattle.report.specs.declared.TakenDown.{TakenDown}

-- 01, The sheet: "floors is n, influence is X"; the texts of the line of a floor with this working
unfoldable pub floor_line : ℕ → Working → List (List ℕ)
floor_line f w =
    bytes_of "floor="
    ∷ decimal f
    ∷ bytes_of " floors="
    ∷ decimal w.floors
    ∷ bytes_of " influence="
    ∷ decimal w.influence.0
    ∷ bytes_of " figure="
    ∷ decimal w.figure
    ∷ (newline ∷ [])
    ∷ []

-- 01, The sheet: a floor that a line has is printed, and no other
unfoldable pub floor_line_of : ℕ → Said Working → List (List ℕ)
floor_line_of f (gives w) = floor_line f w
floor_line_of f (refused n _) = []

-- 01, The sheet: "Each distinct floor has one line, top first"; the floors from 1 to f
unfoldable pub floor_lines : Column → ℕ → List (List ℕ)
floor_lines c zero = []
floor_lines c (suc f) = floor_lines c f ++ floor_line_of (suc f) (asked c (suc f))

-- 01, The sheet: "The live effect is the figure at the last floor, divided by 100 and rounded up", and "0 without lines"
unfoldable pub live_of : Column → ℕ
live_of c = (lowest_figure c.member (lines_of c) + 99) / 100

-- 01, The sheet: the six effects of a sheet, "one a line", with the live effect among them
unfoldable pub effects_with : List ℤ → ℕ → PerLoad ℤ
effects_with es live =
    let at : ℕ → ℤ = λ k. get_or es k (pos 0) in
    record { dead = at 0; live = pos live; roof = at 1; snow = at 2; rain = at 3; wind = at 4; quake = at 5 }

-- 01, The sheet: the seven effects of a sheet, its six and "the live effect"
unfoldable pub effects_of : Sheet → PerLoad ℤ
effects_of s = effects_with s.effects (live_of s.column)

-- 01, The sheet: "max and min are tenths"; a governing sum and its row
unfoldable pub governing_line : List ℕ → GoverningRow → List (List ℕ)
governing_line key g = key ∷ (signed_parts g.tenths ++ (bytes_of " row=" ∷ decimal g.row ∷ (newline ∷ []) ∷ []))

-- 01, The sheet: the line of max, then the line of min
unfoldable pub governing_lines : Governing → List (List ℕ)
governing_lines g = governing_line (bytes_of "max=") g.greatest ++ governing_line (bytes_of "min=") g.least

-- 01, The sheet: what is printed of a sheet that is read; "without floors only the last two lines"
unfoldable pub takedown_of : Sheet → List (List ℕ)
takedown_of s = floor_lines s.column lowest_floor ++ governing_lines (governing (newtons_of (effects_of s)))

-- 01, The sheet: "A refused sheet prints only `refused=N line=K`"
unfoldable pub refusal_line : ℕ → ℕ → List (List ℕ)
refusal_line n k = bytes_of "refused=" ∷ decimal n ∷ bytes_of " line=" ∷ decimal k ∷ (newline ∷ []) ∷ []

-- 01, Numbers by the place of checking: "all that was lent, is then as before": the bytes that the report of a text puts at
-- the front of the lent buffer, the take-down, and none where the sheet is refused
unfoldable pub put_of : List ℕ → List ℕ
put_of text = let r = read_sheet text in cond (eqb r.number 0) (joined (takedown_of r.sheet)) []

-- 01, Numbers by the place of checking and The sheet: what the report answers: the number, 0 where the sheet is read, the line
-- K, and how many bytes are put
pub record Reported : Type 0 where
  pub number : ℕ
  pub line : ℕ
  pub length : ℕ

-- No part of the paper: what the answer of the report says
unfoldable pub reported_told : Result TakenDown (Refused ℕ) → Reported
reported_told (Ok t) = record { number = 0; line = t.line; length = t.length }
reported_told (Err r) = record { number = number_of r.refusal; line = r.back; length = 0 }

-- 01, Numbers by the place of checking and The sheet: what the report of a text answers
unfoldable pub reported_of : List ℕ → Reported
reported_of text = let r = read_sheet text in record { number = r.number; line = r.line; length = length (put_of text) }

-- 01, The sheet: the bytes of "only `refused=N line=K`"
unfoldable pub refusal_text : ℕ → ℕ → List ℕ
refusal_text n k = joined (refusal_line n k)

-- 01, The sheet: all that takedown prints from a text
unfoldable pub report_of : List ℕ → List ℕ
report_of text = let r = read_sheet text in cond (eqb r.number 0) (put_of text) (refusal_text r.number r.line)
