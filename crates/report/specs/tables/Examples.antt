-- Paper 01, "The sheet": the sample sheet and what takedown prints for it, "in whole"; and refused sheets.
-- Assumes nothing.
use Rattle.std.specs.Prelude.{◌≡◌, List, [], ◌∷◌, map, ℕ}
use Prim.Native.String.{String}
use Rattle.text.specs.Text.{bytes_of}
use Rattle.text.specs.Lines.{text_of}
use Rattle.report.specs.Report.{report_of}

-- a text of these lines
abbrev pub lines_text : List String → List ℕ
lines_text ls = text_of (map bytes_of ls)

-- a sheet, and what is printed for it
pub data Example : Type 0 where
  example : List String → List String → Example

-- 01, The sheet: the sample
unfoldable pub sample : List String
sample =
    "member=1"
    ∷ "floor=1 class=1 load=2000 area=1600"
    ∷ "floor=2 class=1 load=2000 area=1600"
    ∷ "dead=100000"
    ∷ "roof=0"
    ∷ "snow=0"
    ∷ "rain=0"
    ∷ "wind=0"
    ∷ "quake=0"
    ∷ []

-- 01, The sheet: what it prints from it, "in whole"
unfoldable pub sample_report : List String
sample_report =
    "floor=1 floors=1 influence=6400 figure=2628800"
    ∷ "floor=2 floors=2 influence=12800 figure=4185600"
    ∷ "max=1869696 row=2"
    ∷ "min=900000 row=22"
    ∷ []

-- 01, The sheet and Numbers by the place of checking: the sample, and sheets that are refused
unfoldable pub examples : List Example
examples =
    example sample sample_report
    ∷ example [] ("refused=10 line=1" ∷ [])
    ∷ example ("member=13" ∷ []) ("refused=1 line=1" ∷ [])
    ∷ example ("member=1" ∷ "floor=2 class=1 load=2000 area=1600" ∷ "floor=1 class=4 load=0 area=0" ∷ "dead" ∷ []) ("refused=3 line=3" ∷ [])
    ∷ example ("member=1" ∷ "dead=-0" ∷ []) ("refused=10 line=2" ∷ [])
    ∷ example ("member=1" ∷ "dead=1000000000001" ∷ []) ("refused=9 line=2" ∷ [])
    ∷ []

-- what an example says
unfoldable pub Says : Example → Type 0
Says (example sheet printed) = report_of (lines_text sheet) ≡ lines_text printed
