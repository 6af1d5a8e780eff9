-- `sheet::offending` meets its contract: the part lies within the text. Assumes nothing.
use Rattle.std.proofs.Common.{arith, length}
use Rattle.std.proofs.Math.Path.{subst⁻¹}
use Rattle.sheet.specs.Sheet.{reading_told, offending_of, offending_at}
use Rattle.sheet.proofs.ReadOn.{PartOf, read_part}
use Rattle.sheet.proofs.offending.Goals as goal
use Rattle.sheet.proofs.offending.Goals.{After-read}

-- the part that was read off lies within the text
part : (c : After-read) → PartOf (length c.args.text.now) (reading_told c.read.result)
part c = subst⁻¹ (PartOf _) c.read.ensures.read (read_part c.args.text.now)

pub slice_bounds-result-count : goal.slice_bounds-result-count
unfolding reading_told
slice_bounds-result-count c = let p = part (goal.at.slice_bounds-result-count c).After-read in omega (arith, p.order, p.inside)

pub slice_bounds-result-start : goal.slice_bounds-result-start
unfolding reading_told
slice_bounds-result-start c = let p = part (goal.at.slice_bounds-result-start c).After-read in omega (arith, p.order, p.inside)

pub slice_bounds-result-end : goal.slice_bounds-result-end
unfolding reading_told
slice_bounds-result-end c = let p = part (goal.at.slice_bounds-result-end c).After-read in omega (arith, p.order, p.inside)

pub returns-clause-part : goal.returns-clause-part
unfolding offending_of reading_told
returns-clause-part c = rw (← c.read.ensures.read)

pub returns-clause-place : goal.returns-clause-place
unfolding offending_at reading_told
returns-clause-place c = rw (← c.read.ensures.read)
