-- Paper 02, CR 2: what writing the sheet of a column and six effects into a lent buffer gives.
-- Assumes nothing.
use Rattle.std.specs.Prelude.{false, cond, List, [], ◌∷◌, ℕ, leb, ℤ, pos, length, Option, Some, None, unwrap_or, Float}
use Rattle.std.specs.Float.{fin}
use Rattle.refusal.specs.Said.{Told, gives, refused}
use Rattle.effects.specs.declared.LoadEffect.{LoadEffect}
use Rattle.effects.specs.Check.{load_effect, checked_from}
use Rattle.column.specs.declared.Column.{Column}
use Rattle.sheet_text.specs.Written.{written}
use Rattle.sheet_writer.specs.declared.SheetDoubles.{SheetDoubles}

-- 02, CR 2: an effect by its place among the "six whole effects", from 1
abbrev pub Placed : Type 0
Placed = LoadEffect ℕ

-- 01, The sheet: `dead roof snow rain wind quake`, as they are handed over
unfoldable pub six_listed : SheetDoubles → List Placed
six_listed e =
    load_effect 1 e.dead
    ∷ load_effect 2 e.roof
    ∷ load_effect 3 e.snow
    ∷ load_effect 4 e.rain
    ∷ load_effect 5 e.wind
    ∷ load_effect 6 e.quake
    ∷ []

-- 01, Numbers by the place of checking: the six in this order, each 8 and then 9
unfoldable pub six_checked : SheetDoubles → Told Placed (List ℤ)
six_checked e = checked_from [] (six_listed e)

-- No part of the paper: what is told where it is no effect that is refused
abbrev pub no_effect : Placed
no_effect = load_effect 0 (fin false 0 (pos 0))

-- 02, CR 2: goes on with "six whole effects within limits", or refuses the first that is none; 01, Effects and the 25
-- combinations: "A refused effect comes back with the double as it came", here with its place too
unfoldable pub if_whole : {A : Type 0} → Told Placed (List ℤ) → (List ℤ → Told (Option Placed) A) → Told (Option Placed) A
if_whole (gives zs) next = next zs
if_whole (refused n e) next = refused n (Some e)

-- 02, CR 2: "12: buffer shorter than the text"; one just as long has room
unfoldable pub if_room : ℕ → List ℕ → Told (Option Placed) (List ℕ)
if_room room text = cond (leb (length text) room) (gives text) (refused 12 None)

-- 02, CR 2: "Write the sheet for any column and six whole effects within limits into a lent buffer" of so many bytes: the text
-- that is put there; 12 is "checked after the effects"
unfoldable pub saving : Column → SheetDoubles → ℕ → Told (Option Placed) (List ℕ)
saving c e room = if_whole (six_checked e) λ zs. if_room room (written (record { column = c; effects = zs }))

-- 02, CR 2: the bytes that are put at the front of the buffer; "a refusal touches none"
unfoldable pub saved_text : Told (Option Placed) (List ℕ) → List ℕ
saved_text (gives text) = text
saved_text (refused n p) = []

-- 02, CR 2: what is answered: the length of the text that is written; or the number, and what comes back with it
unfoldable pub sized : Told (Option Placed) (List ℕ) → Told (Option Placed) ℕ
sized (gives text) = gives (length text)
sized (refused n p) = refused n p

-- 02, CR 2: the same in numbers alone, as a program in C or Rust is answered: the number, 0 where the sheet is written; the place
-- and the double of the effect that is refused; and how many bytes are put
pub record Written : Type 0 where
  pub number : ℕ
  pub place : ℕ
  pub double : Float
  pub length : ℕ

-- 02, CR 2: those numbers of what writing gives
unfoldable pub saved_of : Told (Option Placed) (List ℕ) → Written
saved_of (gives text) = record { number = 0; place = 0; double = no_effect.double; length = length text }
saved_of (refused n p) = let e = unwrap_or p no_effect in record { number = n; place = e.load; double = e.double; length = 0 }
