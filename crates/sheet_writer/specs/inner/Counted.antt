-- The bytes of texts, counted.
-- Assumes nothing.
use Rattle.std.specs.Prelude.{List, ℕ, ◌+◌, length, min}
use Rattle.sheet_writer.specs.declared.counted.Counter.{Counter}

-- a count with the bytes of one text more, within 64 bits
unfoldable pub counted : Counter → List ℕ → Counter
counted c t = record { bytes = min (c.bytes + length t) 18446744073709551615 }
