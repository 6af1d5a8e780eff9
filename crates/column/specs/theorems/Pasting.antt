-- Paper 02, "CR 1. A whole floor pasted in": pasting is entering, one line after another.
-- Assumes nothing.
use Rattle.std.specs.Prelude.{◌≡◌, List, [], ◌∷◌, ◌++◌, ◌+◌, length, take}
use Rattle.column.specs.declared.Line.{Line}
use Rattle.column.specs.declared.Column.{Column}
use Rattle.column.specs.Column.{entered_of, after, Reached}
use Rattle.column.specs.Pasted.{pasted_of}
use Rattle.column.specs.theorems.Entering.{NoneRefused, Stops}

-- 02, CR 1: where no line is refused all are kept, and the column is that after entering all of them
unfoldable pub AllKept : Type 0
AllKept = (c : Column) (lines : List Line) → NoneRefused c lines
    → pasted_of c lines ≡ record { number = 0; kept = length lines; column = after c lines }

-- 02, CR 1: else "the lines before that one are kept", of which none is refused; the first refused line's number is told, and
-- the column is that after entering them and it. By `every_list` this and the one above tell of every list
unfoldable pub KeptBefore : Type 0
KeptBefore = (c : Column) (lines : List Line) (s : Stops c lines)
    → pasted_of c lines
    ≡ record {
      number = (entered_of (after c s.before) s.line).number;
      kept = length s.before;
      column = after c (s.before ++ (s.line ∷ []));
    }

-- 02, CR 1: the entries that a paste makes, the lines "up to and with the first refused line": as many as are kept, and the
-- next one where there is one
abbrev pub pasted_entries : Column → List Line → List Line
pasted_entries c lines = take ((pasted_of c lines).kept + 1) lines

-- 02, CR 1: "It ends as entering them one after another would"
unfoldable pub EndsAsEntering : Type 0
EndsAsEntering = (c : Column) (lines : List Line) → (pasted_of c lines).column ≡ after c (pasted_entries c lines)

-- 02, CR 1: the column then holds the kept lines beside those it held
unfoldable pub KeptAreHeld : Type 0
KeptAreHeld = (c : Column) (lines : List Line) → Reached c → (pasted_of c lines).column.count ≡ c.count + (pasted_of c lines).kept
