-- Paper 01, "Member, line, floor": the lines carried at a floor, their count n and their influence area X.
-- Nothing here looks at the order of the lines.
-- Assumes nothing.
use Rattle.std.specs.Prelude.{Bool, cond, not, List, [], ◌∷◌, ℕ, ◌+◌, ◌*◌, leb, eqb}
use Rattle.reduction.specs.declared.InfluenceArea.{InfluenceArea}
use Rattle.member.specs.Member.{table_factor}
use Rattle.member.specs.Line.{is_formula}
use Rattle.column.specs.declared.Line.{Line}
use Rattle.column.specs.declared.Member.{Member}
use Rattle.lists.specs.Lists.{keep, some, total}

-- 01, Member, line, floor: a formula line
unfoldable pub is_formula_line : Line → Bool
is_formula_line l = is_formula l.load l.class

-- 01, Member, line, floor: the formula lines
unfoldable pub formula_lines : List Line → List Line
formula_lines ls = keep is_formula_line ls

-- 01, Reduced load and figure: "the other lines"
unfoldable pub other_lines : List Line → List Line
other_lines ls = keep (λ l. not (is_formula_line l)) ls

-- 01, Member, line, floor: the lines carried at floor f are those with floor at most f
unfoldable pub carried : ℕ → List Line → List Line
carried f ls = keep (λ l. leb l.floor f) ls

-- 01, Numbers by the place of checking: a line has floor f
unfoldable pub has_floor : ℕ → List Line → Bool
has_floor f ls = some (λ l. eqb l.floor f) ls

-- 01, Member, line, floor: n, the number of distinct floors; a floor counts at the last line that has it
unfoldable pub floors_of : List Line → ℕ
floors_of [] = 0
floors_of (l ∷ ls) = cond (has_floor l.floor ls) 0 1 + floors_of ls

-- 01, Member, line, floor: the summed tributary area, in dm²
unfoldable pub area_of : List Line → ℕ
area_of ls = total (λ l. l.area.0) ls

-- 01, Member, line, floor: X of a member, K times an area
unfoldable pub influence_from : Member → ℕ → InfluenceArea
influence_from m area = record { 0 = table_factor m.code * area }

-- 01, Member, line, floor: X, K times the summed area of the formula lines carried
unfoldable pub influence_of : Member → List Line → InfluenceArea
influence_of m ls = influence_from m (area_of (formula_lines ls))
