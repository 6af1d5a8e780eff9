-- Paper 01, "Member, line, floor": a list of lines entered one after another, up to the first that is refused.
-- Assumes nothing.
use Rattle.std.specs.Prelude.{◌≡◌, List, [], ◌∷◌, ◌++◌, ◌⊎◌, ◌≤◌}
use Rattle.column.specs.declared.Line.{Line}
use Rattle.column.specs.declared.Column.{Column}
use Rattle.column.specs.Column.{entered_of, after}

-- no line of a list is refused where each is entered on what the one before it left
pub data NoneRefused : Column → List Line → Type 0 where
  none : {c : Column} → NoneRefused c []
  more : {c : Column} {l : Line} {ls : List Line} → (entered_of c l).number ≡ 0 → NoneRefused (entered_of c l).column ls → NoneRefused c (l ∷ ls)

-- a list has a line that is refused, and the lines before it are not
pub record Stops (c : Column) (lines : List Line) : Type 0 where
  pub before : List Line
  pub line : Line
  pub rest : List Line
  pub is : lines ≡ before ++ (line ∷ rest)
  pub accepted : NoneRefused c before
  pub refused : 1 ≤ (entered_of (after c before) line).number

-- every list is one of the two, so that a claim for each tells of every list
abbrev pub EveryList : Type 0
EveryList = (c : Column) (lines : List Line) → NoneRefused c lines ⊎ Stops c lines
