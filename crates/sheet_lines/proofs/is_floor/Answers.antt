-- `sheet_lines::is_floor` meets its contract: what begins with the first key of a floor line, where dead is due. Assumes nothing.
use Rattle.std.proofs.Common.{◌∙◌, eq-eqb, ne_eqb}
use Rattle.sheet_lines.specs.Form.{floor_keys, is_floor}
use Rattle.sheet_lines.proofs.AtPlace.{begins_is}
use Rattle.sheet_lines.proofs.is_floor.Goals as goal

pub returns-then-place-eq0 : goal.returns-then-place-eq0
unfolding is_floor floor_keys
returns-then-place-eq0 c = rw (eq-eqb _ _ c.if-place-eq0.true) (c.starts_with.ensures.value ∙ begins_is _ _)

pub returns-else-place-eq0 : goal.returns-else-place-eq0
unfolding is_floor
returns-else-place-eq0 c = simp (ne_eqb _ _ c.if-place-eq0.false)
