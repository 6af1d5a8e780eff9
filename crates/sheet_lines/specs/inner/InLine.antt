-- What keeps a number within 64 bits and its place within the line; and the number that a text is.
-- Assumes nothing.
use Rattle.std.specs.Prelude.{cond, List, ℕ, ◌≤◌, ◌<◌, eqb, length, Option, Some, None}
use Rattle.sheet_lines.specs.declared.number.Read.{Read}
use Rattle.sheet_lines.specs.Number.{number_at}
use Rattle.sheet_lines.specs.Form.{with_number}

-- a number of at most 13 digits, which ends within a line of so many bytes
unfoldable pub Small : ℕ → Option Read → Type 0
Small most (Some r) = (r.value < 10000000000000) × (r.next ≤ most)
Small most None = Unit {0}

-- the number that the whole of a text is
unfoldable pub whole_number : List ℕ → Option ℕ
whole_number text = with_number None (number_at text 0) λ value next. cond (eqb next (length text)) (Some value) None
