-- What is printed of the floors, by a table of what holds at each; a law says it too.
-- Assumes nothing.
use Rattle.std.specs.Prelude.{List, [], ◌++◌, ℕ, zero, suc, get_or, Option, Some, None}
use Rattle.figure.specs.declared.Working.{Working}
use Rattle.report.specs.Report.{floor_line}

-- the line of a floor; none where nothing holds there
unfoldable pub line_of : ℕ → Option Working → List (List ℕ)
line_of f (Some w) = floor_line f w
line_of f None = []

-- the lines of the floors from 1 to f
unfoldable pub table_lines : List (Option Working) → ℕ → List (List ℕ)
table_lines table zero = []
table_lines table (suc f) = table_lines table f ++ line_of (suc f) (get_or table f None)
