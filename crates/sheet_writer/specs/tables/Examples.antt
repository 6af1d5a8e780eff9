-- Paper 02, CR 2: what writing gives in examples: effects at and beside their limits, buffers that are just long enough and
-- one byte too short.
-- Assumes nothing.
use Rattle.std.specs.Prelude.{◌≡◌, true, false, cond, List, [], ◌∷◌, map, ℕ, eqb, pos, negsuc, Float, Option, Some, None}
use Prim.Native.String.{String}
use Rattle.std.specs.Float.{nan, inf, fin}
use Rattle.refusal.specs.Said.{Told, gives, refused}
use Rattle.text.specs.Text.{bytes_of}
use Rattle.text.specs.Lines.{newline}
use Rattle.column.specs.Line.{entries_of}
use Rattle.column.specs.Column.{column_of, member_of}
use Rattle.sheet_writer.specs.declared.SheetDoubles.{SheetDoubles}
use Rattle.effects.specs.Check.{load_effect}
use Rattle.sheet_writer.specs.Saving.{Placed, saving}

-- so many newtons as a double, upwards with a minus sign, and so many halves
abbrev pub whole : ℕ → Float
whole n = fin false n (pos 0)

abbrev pub uplift : ℕ → Float
uplift n = fin true n (pos 0)

abbrev pub halves : ℕ → Float
halves n = fin false n (negsuc 0)

-- the six effects, dead to quake
abbrev pub six : Float → Float → Float → Float → Float → Float → SheetDoubles
six d r s n w q = record { dead = d; roof = r; snow = s; rain = n; wind = w; quake = q }

-- what is told: a text, in which | stands for the newline; an effect that is refused, at a place; that there is no room
unfoldable pub puts : String → Told (Option Placed) (List ℕ)
puts text = gives (map (λ b. cond (eqb b 124) newline b) (bytes_of text))

abbrev pub refuses : ℕ → ℕ → Float → Told (Option Placed) (List ℕ)
refuses number place x = refused number (Some (load_effect place x))

abbrev pub no_room : Told (Option Placed) (List ℕ)
no_room = refused 12 None

-- a member's code and its lines, four numbers each; the effects; the bytes of the buffer; and what is told
pub data Example : Type 0 where
  example : ℕ → List ℕ → SheetDoubles → ℕ → Told (Option Placed) (List ℕ) → Example

-- 01, The sheet: the lines of the sample
unfoldable pub offices : List ℕ
offices = 1 ∷ 1 ∷ 2000 ∷ 1600 ∷ 2 ∷ 1 ∷ 2000 ∷ 1600 ∷ []

-- 02, CR 2: the sample, with just enough room and a byte less; effects at both limits, and minus zero; a fraction beyond the
-- limit, 8, and no room for it; the first of two that are refused, by its 9; an infinity at the last place; no lines
unfoldable pub examples : List Example
examples =
    example 1 offices (six (whole 100000) (whole 0) (whole 0) (whole 0) (whole 0) (whole 0)) 129 (puts "member=1|floor=1 class=1 load=2000 area=1600|floor=2 class=1 load=2000 area=1600|dead=100000|roof=0|snow=0|rain=0|wind=0|quake=0|")
    ∷ example 1 offices (six (whole 100000) (whole 0) (whole 0) (whole 0) (whole 0) (whole 0)) 128 no_room
    ∷ example 12 [] (six (whole 0) (uplift 0) (whole 1000000000000) (uplift 1000000000000) (halves 14) (uplift 60000)) 4096 (puts "member=12|dead=0|roof=0|snow=1000000000000|rain=-1000000000000|wind=7|quake=-60000|")
    ∷ example 1 [] (six (whole 0) (halves 2000000000001) (whole 0) (whole 0) (whole 0) (whole 0)) 0 (refuses 8 2 (halves 2000000000001))
    ∷ example 1 [] (six (whole 0) (whole 0) (uplift 1000000000001) nan (whole 0) (whole 0)) 4096 (refuses 9 3 (uplift 1000000000001))
    ∷ example 1 [] (six (whole 0) (whole 0) (whole 0) (whole 0) (whole 0) (inf true)) 51 (refuses 8 6 (inf true))
    ∷ example 1 [] (six (whole 0) (whole 0) (whole 0) (whole 0) (whole 0) (whole 0)) 51 no_room
    ∷ example 1 [] (six (whole 0) (whole 0) (whole 0) (whole 0) (whole 0) (whole 0)) 52 (puts "member=1|dead=0|roof=0|snow=0|rain=0|wind=0|quake=0|")
    ∷ []

-- what an example says
unfoldable pub Says : Example → Type 0
Says (example code lines effects room told) = saving (column_of (member_of code) (entries_of lines)) effects room ≡ told
