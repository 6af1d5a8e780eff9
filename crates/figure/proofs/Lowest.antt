-- The figure at the lowest floor is what asking there gives, and that of all lines of a reached column.
-- Assumes nothing.
use Rattle.std.proofs.Common.{◌≡◌, refl, sym, ◌∙◌, ap, true, List, [], ◌∷◌, append-nil, ◌≤◌, eqb, eq-eqb}
use Rattle.std.proofs.Math.Bool.{or-true}
use Rattle.lists.specs.Lists.{none, keep, some, total}
use Rattle.refusal.specs.Said.{gives}
use Rattle.column.specs.declared.Line.{Line}
use Rattle.column.specs.declared.Member.{Member}
use Rattle.column.specs.declared.Column.{Column}
use Rattle.column.specs.Accepted.{last_floor}
use Rattle.column.specs.Column.{lines_of, Reached}
use Rattle.column.proofs.Reach.{sound}
use Rattle.figure.specs.Carried.{carried, has_floor}
use Rattle.figure.specs.Figure.{figure_of}
use Rattle.figure.specs.Asked.{working_of, asked_of}
use Rattle.figure.specs.Lowest.{lowest_figure}
use Rattle.figure.proofs.Most.{working_most}
use Rattle.figure.proofs.Order.{last_lowest, reached_ordered}
use Rattle.figure.proofs.Carried.{carried_front}

-- where there are lines, one has the last floor
has_last : (l : Line) (ls : List Line) → has_floor (last_floor (l ∷ ls)) (l ∷ ls) ≡ true
unfolding has_floor some last_floor
has_last l [] = rw (eq-eqb l.floor l.floor refl)
has_last l (k ∷ ls) = rw (has_last k ls) (or-true (eqb l.floor (last_floor (k ∷ ls))))

-- without lines it is 0
pub lowest_none : (m : Member) → lowest_figure m [] ≡ 0
unfolding lowest_figure figure_of carried keep total
lowest_none m = refl

-- with lines it is the figure that asking at the last floor gives
pub asked_lowest : (m : Member) (l : Line) (ls : List Line)
    → let f = last_floor (l ∷ ls) in (asked_of m (l ∷ ls) f ≡ gives (working_of m (l ∷ ls) f)) × ((working_of m (l ∷ ls) f).figure ≡ lowest_figure m (l ∷ ls))
unfolding asked_of working_of lowest_figure
asked_lowest m l ls = (rw (has_last l ls), refl)

-- all lines of a reached column are carried there
lowest_carried : {c : Column} → Reached c → carried (last_floor (lines_of c)) (lines_of c) ≡ lines_of c
lowest_carried {c} r =
    ap (carried (last_floor (lines_of c))) (sym (append-nil (lines_of c))) ∙ carried_front _ (last_lowest (reached_ordered r)) none

pub lowest_all : {c : Column} → Reached c → lowest_figure c.member (lines_of c) ≡ figure_of c.member (lines_of c)
unfolding lowest_figure
lowest_all {c} r = ap (figure_of c.member) (lowest_carried r)

-- and the largest figure is that of 256 lines
pub lowest_most : {c : Column} → Reached c → lowest_figure c.member (lines_of c) ≤ 2560000000000
unfolding lowest_figure working_of
lowest_most {c} r = (working_most c (sound r) (last_floor (lines_of c))).figure
