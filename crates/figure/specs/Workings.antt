-- Paper 01, "Member, line, floor": what holds at every floor from 1 on.
-- Assumes nothing.
use Rattle.std.specs.Prelude.{List, [], ◌∷◌, ◌++◌, ℕ, zero, suc, Option, Some, None}
use Rattle.refusal.specs.Said.{Said, gives, refused}
use Rattle.column.specs.declared.Column.{Column}
use Rattle.figure.specs.declared.Working.{Working}
use Rattle.figure.specs.Asked.{asked}

-- No part of the paper: n, X and the figure; none where no line has the floor
unfoldable pub working_said : Said Working → Option Working
working_said (gives w) = Some w
working_said (refused n _) = None

-- 01, Numbers by the place of checking: asking at each floor from 1 to f
unfoldable pub workings_of : Column → ℕ → List (Option Working)
workings_of c zero = []
workings_of c (suc f) = workings_of c f ++ (working_said (asked c (suc f)) ∷ [])
