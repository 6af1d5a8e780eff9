-- Why reading from a reader stopped.
-- Assumes nothing.
use Rattle.std.specs.Prelude.{Bool, true, false, Result, Ok, Err}
use Rattle.std.specs.declared.io.Error.{Error}
use Rattle.input.specs.declared.Ending.{Ending}
use Rattle.input.specs.declared.Ending.TheVariants.{Full, Ended}

-- No part of the paper: the buffer is full; else the input has ended before, or a read failed
unfoldable pub is_full : Result Ending Error → Bool
is_full (Ok Full) = true
is_full (Ok Ended) = false
is_full (Err error) = false
