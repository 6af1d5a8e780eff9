-- `report::takedown::put_floors` meets its contract: the loop has put the lines of the floors so far. Assumes nothing.
use Rattle.std.proofs.Common.{◌≡◌, refl, add-one, arith}
use Rattle.text.specs.Put.{put_all}
use Rattle.text.proofs.Puts.{put_then}
use Rattle.report.specs.inner.Table.{table_lines}
use Rattle.report.proofs.takedown.put_floors.Goals as goal

pub loop-above-init : goal.loop-above-init
unfolding table_lines put_all
loop-above-init c = refl

pub loop-above-preserved : goal.loop-above-preserved
unfolding table_lines
loop-above-preserved c = rw (add-one c.loop-above.above, c.put_floor.ensures, c.loop-above.invariant, add-one c.loop-above.above) (put_then _ _ _ _)

pub returns : goal.returns
returns c =
    let all : c.loop-above.above ≡ 64 = omega arith in
    rw all at c.loop-above.invariant
