-- The lines of a reached column are accepted in turn, each with the lines before it held.
-- Assumes nothing.
use Rattle.std.proofs.Common.{List, []}
use Rattle.std.proofs.Math.Path.{subst⁻¹}
use Rattle.column.specs.declared.Line.{Line}
use Rattle.column.specs.declared.Member.{Member}
use Rattle.column.specs.declared.Column.{Column}
use Rattle.column.specs.Accepted.{accepted}
use Rattle.column.specs.Column.{lines_of, column_of, Reached}
use Rattle.column.specs.theorems.InTurn.{Holdable, AcceptedInTurn, none, more}
use Rattle.column.proofs.Columns.{column_lines}
use Rattle.column.proofs.Reach.{holdable_none, holdable_more, accepted_all, accepted_holdable, reached_column}

-- the lines of a reached column are accepted in turn
pub reached_in_turn : {c : Column} → Reached c → AcceptedInTurn c.member (lines_of c)
unfolding column_of
reached_in_turn r =
    let m = r.member in
    subst⁻¹ (λ (d : Column). AcceptedInTurn d.member (lines_of d)) (reached_column r)
    (rw (column_lines m (accepted m r.entries) (accepted_holdable m r.entries).lines) (accepted_all m (AcceptedInTurn m) more [] r.entries none))

-- they may be held
pub in_turn_holdable : {m : Member} {ls : List Line} → AcceptedInTurn m ls → Holdable ls
in_turn_holdable none = holdable_none
in_turn_holdable {m} (more ls l a e) = holdable_more m ls l (in_turn_holdable a) e
