-- What reading gives, by where it stopped and the sheet as far as it was read.
-- Assumes nothing.
use Rattle.std.specs.Prelude.{Result, Ok, Err}
use Rattle.refusal.specs.declared.Refused.{Refused}
use Rattle.refusal.specs.Refusal.{number_of}
use Rattle.sheet.specs.declared.Stop.{Stop}
use Rattle.sheet.specs.declared.steps.Draft.{Draft}
use Rattle.sheet.specs.Sheet.{Reading, reading}

-- the sheet is read; or it is refused at a line
unfoldable pub reading_of : Result Stop (Refused Stop) → Draft → Reading
reading_of (Ok s) d = reading 0 s.line s.part.start s.part.end d
reading_of (Err r) d = reading (number_of r.refusal) r.back.line r.back.part.start r.back.part.end d
