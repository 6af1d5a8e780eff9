-- Paper 01, "Numbers by the place of checking", and the requests of paper 02: the number of each refusal.
-- Assumes nothing.
use Rattle.std.specs.Prelude.{ℕ}
use Rattle.refusal.specs.declared.Refusal.{Refusal}
use Rattle.refusal.specs.declared.Refusal.TheVariants.{UnknownCode, TooManyLines, FloorOutOfRange, UnknownClass, LoadOutOfRange, AreaOutOfRange}
use Rattle.refusal.specs.declared.Refusal.TheVariants.{NoLineAtFloor, EffectNotWhole, EffectOutOfRange, SheetMalformed, SheetTooLong, BufferTooShort}

-- 01, Numbers by the place of checking: column "No.", a line a number; from 12 on 02, CR 2: "12: buffer shorter than the text"
unfoldable pub number_of : Refusal → ℕ
number_of UnknownCode = 1
number_of TooManyLines = 2
number_of FloorOutOfRange = 3
number_of UnknownClass = 4
number_of LoadOutOfRange = 5
number_of AreaOutOfRange = 6
number_of NoLineAtFloor = 7
number_of EffectNotWhole = 8
number_of EffectOutOfRange = 9
number_of SheetMalformed = 10
number_of SheetTooLong = 11
number_of BufferTooShort = 12
