-- What the private functions ask of a column, and laws say of it.
-- Assumes nothing.
use Rattle.std.specs.Prelude.{◌≡◌, true, List, map, ℕ, ◌≤◌, length, take, get_or, replicate}
use Rattle.std.proofs.Math.Seq.{slice}
use Rattle.member.specs.Between.{between}
use Rattle.lists.specs.Lists.{All}
use Rattle.column.specs.declared.Line.{Line}
use Rattle.column.specs.declared.Column.{Column}
use Rattle.column.specs.Line.{most_lines, lowest_floor, unpacked}

-- a line whose numbers are within their limits
pub record InLimits (l : Line) : Type 0 where
  pub floor : (1 ≤ l.floor) × (l.floor ≤ lowest_floor)
  pub class : (1 ≤ l.class) × (l.class ≤ 3)
  pub load : (1 ≤ l.load) × (l.load ≤ 50000)
  pub area : (1 ≤ l.area.0) × (l.area.0 ≤ 200000)

-- the line at a place, counted from 0; the lines before a place, and those from a place to before another
abbrev pub line_at : List ℕ → ℕ → Line
line_at places i = unpacked (get_or places i 0)

abbrev pub lines_before : List ℕ → ℕ → List Line
lines_before places end = map unpacked (take end places)

abbrev pub lines_between : List ℕ → ℕ → ℕ → List Line
lines_between places first end = map unpacked (slice first end places)

-- a column's places with so many lines, at most `most_lines`, each within its limits, in whatever order
pub record Held (places : List ℕ) (count : ℕ) : Type 0 where
  pub few : count ≤ most_lines
  pub size : length places ≡ most_lines
  pub lines : All InLimits (lines_before places count)

-- a column whose member has a code, with such places
pub record Sound (c : Column) : Type 0 where
  pub code : between 1 12 c.member.code ≡ true
  pub held : Held c.held c.count

-- the places of a column without lines
abbrev pub no_places : List ℕ
no_places = replicate most_lines 0
