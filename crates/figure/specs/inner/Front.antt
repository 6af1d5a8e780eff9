-- The lines carried at a floor, where lines stand in order.
-- Assumes nothing.
use Rattle.std.specs.Prelude.{◌≡◌, true, false, Option, MatchOption, List, map, ℕ}
use Rattle.column.specs.Line.{unpacked}
use Rattle.figure.specs.declared.lines.Lines.{Lines}
use Rattle.figure.specs.Carried.{carried, has_floor}

-- the lines carried at a floor, which a line has; they stand first
pub record Front (f : ℕ) (ns front : List ℕ) : Type 0 where
  pub has : has_floor f (map unpacked ns) ≡ true
  pub carries : carried f (map unpacked ns) ≡ map unpacked front

-- those, or none where no line has the floor
abbrev pub FrontOf : ℕ → List ℕ → Option Lines → Type 0
FrontOf f ns r = MatchOption r (has_floor f (map unpacked ns) ≡ false) (λ front. Front f ns front.numbers.now)
