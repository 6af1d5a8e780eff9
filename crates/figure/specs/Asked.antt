-- Paper 01, "Member, line, floor" and "Numbers by the place of checking": what asking at a floor gives.
-- Assumes nothing.
use Rattle.std.specs.Prelude.{cond, List, ℕ}
use Rattle.refusal.specs.Said.{Said, gives, refused, nothing}
use Rattle.column.specs.declared.Line.{Line}
use Rattle.column.specs.declared.Member.{Member}
use Rattle.column.specs.declared.Column.{Column}
use Rattle.figure.specs.declared.Working.{Working}
use Rattle.figure.specs.Carried.{carried, has_floor, floors_of, influence_of}
use Rattle.figure.specs.Figure.{figure_of}
use Rattle.column.specs.Column.{lines_of}

-- 01, Member, line, floor and Reduced load and figure: n, X and the figure at floor f, for a member with these accepted lines
unfoldable pub working_of : Member → List Line → ℕ → Working
working_of m ls f =
    record {
      floors = floors_of (carried f ls);
      influence = influence_of m (carried f ls);
      figure = figure_of m (carried f ls);
    }

-- 01, Numbers by the place of checking: asking at a floor; 7 where no accepted line has that floor
unfoldable pub asked_of : Member → List Line → ℕ → Said Working
asked_of m ls f = cond (has_floor f ls) (gives (working_of m ls f)) (refused 7 nothing)

-- 01, Numbers by the place of checking: asking a column at a floor
abbrev pub asked : Column → ℕ → Said Working
asked c f = asked_of c.member (lines_of c) f
