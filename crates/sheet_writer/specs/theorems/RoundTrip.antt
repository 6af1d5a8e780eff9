-- Paper 02, CR 2: what is written and read again, and what is read and written again; and the room that always suffices.
-- Assumes nothing.
use Rattle.std.specs.Prelude.{◌≡◌, List, ℕ, ◌≤◌, ◌<◌, ℤ, pos, Float, length, take, drop, get_or}
use Rattle.std.specs.Float.{binary64}
use Rattle.std.specs.Float.Ieee.{of_int}
use Rattle.refusal.specs.Said.{gives}
use Rattle.text.specs.Put.{fronted}
use Rattle.column.specs.declared.Column.{Column}
use Rattle.column.specs.Column.{Reached}
use Rattle.sheet.specs.declared.Sheet.{Sheet}
use Rattle.sheet.specs.Sheet.{Reading, read_sheet}
use Rattle.sheet.specs.Keeps.{EffectsWithin, Keeps}
use Rattle.sheet_text.specs.Written.{written}
use Rattle.sheet_writer.specs.declared.SheetDoubles.{SheetDoubles}
use Rattle.sheet_writer.specs.Saving.{Written, six_checked, no_effect, saving, saved_text, saved_of}

-- what the call answers that writes a column and six effects to this buffer, and the buffer then, as its contract says
abbrev pub answered : Column → SheetDoubles → List ℕ → Written
answered c e buffer = saved_of (saving c e (length buffer))

abbrev pub buffer_after : Column → SheetDoubles → List ℕ → List ℕ
buffer_after c e buffer = fronted (saved_text (saving c e (length buffer))) buffer

-- what it answers where so many bytes are written
abbrev pub wrote : ℕ → Written
wrote n = record { number = 0; place = 0; double = no_effect.double; length = n }

-- 02, CR 2: "Reading it must return the same column and effects"
pub record Returns (r : Reading) (c : Column) (e : SheetDoubles) : Type 0 where
  pub number : r.number ≡ 0
  pub column : r.sheet.column ≡ c
  pub effects : six_checked e ≡ gives r.sheet.effects

abbrev pub ReadBack : Type 0
ReadBack =
    (c : Column) (e : SheetDoubles) (buffer : List ℕ) → Reached c → (answered c e buffer).number ≡ 0
    → Returns (read_sheet (take (answered c e buffer).length (buffer_after c e buffer))) c e

-- the effects of a sheet handed over as doubles, each exactly
unfoldable pub sheet_doubles_of : List ℤ → SheetDoubles
sheet_doubles_of zs =
    let at : ℕ → Float = λ k. of_int binary64 (get_or zs k (pos 0)) in
    record { dead = at 0; roof = at 1; snow = at 2; rain = at 3; wind = at 4; quake = at 5 }

-- 02, CR 2: "Every sheet that reads well is written back byte for byte", where the buffer is as long as it is or longer
abbrev pub WrittenBack : Type 0
WrittenBack =
    (text buffer : List ℕ) → (read_sheet text).number ≡ 0 → length text ≤ length buffer
    → let s = (read_sheet text).sheet in
    (answered s.column (sheet_doubles_of s.effects) buffer ≡ wrote (length text)) × (buffer_after s.column (sheet_doubles_of s.effects) buffer ≡ fronted text buffer)

-- 02, CR 2: where six doubles are the "six whole effects within limits" of a sheet, it is written whole; for want of room
-- alone it is not
pub record Writes (s : Sheet) (e : SheetDoubles) (buffer : List ℕ) : Type 0 where
  pub whole : length (written s) ≤ length buffer → (answered s.column e buffer ≡ wrote (length (written s))) × (buffer_after s.column e buffer ≡ fronted (written s) buffer)
  pub short : length buffer < length (written s) → ((answered s.column e buffer).number ≡ 12) × (buffer_after s.column e buffer ≡ buffer)

abbrev pub AnySheet : Type 0
AnySheet = (s : Sheet) (e : SheetDoubles) (buffer : List ℕ) → six_checked e ≡ gives s.effects → Writes s e buffer

-- 02, CR 2: "six whole effects within limits", handed over as doubles, are taken as they are
abbrev pub EffectsTaken : Type 0
EffectsTaken = (zs : List ℤ) → EffectsWithin zs → six_checked (sheet_doubles_of zs) ≡ gives zs

-- 02, CR 2: "Bytes past the end of the text stay untouched, and a refusal touches none"
pub record Touches (c : Column) (e : SheetDoubles) (buffer : List ℕ) : Type 0 where
  pub past : drop (answered c e buffer).length (buffer_after c e buffer) ≡ drop (answered c e buffer).length buffer
  pub refusal : ((answered c e buffer).number ≡ 0 → ⊥) → buffer_after c e buffer ≡ buffer

abbrev pub TouchesNoMore : Type 0
TouchesNoMore = (c : Column) (e : SheetDoubles) (buffer : List ℕ) → Touches c e buffer

-- no sheet has more than 10,371 bytes, so a buffer of 12,288 always suffices
pub record RoomSuffices : Type 0 where
  pub longest : (s : Sheet) → Keeps s → length (written s) ≤ 10371
  pub never_short : (c : Column) (e : SheetDoubles) (buffer : List ℕ) → Reached c → 12288 ≤ length buffer → (answered c e buffer).number ≡ 12 → ⊥
