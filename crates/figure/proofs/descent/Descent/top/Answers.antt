-- `figure::descent::Descent::top` meets its contract: without lines all is 0. Assumes nothing.
use Rattle.std.proofs.Common.{refl, arith}
use Rattle.figure.proofs.Walk.{descended_top}
use Rattle.figure.proofs.descent.Descent.top.Goals as goal

pub shares_at-requires : goal.shares_at-requires
shares_at-requires c = (c.requires, omega arith)

pub invariant_of-result : goal.invariant_of-result
invariant_of-result c = record { area_is = rw c.first.ensures; figure_is = rw c.first.ensures }

pub returns : goal.returns
returns c = (descended_top _ c.args.lines _ c.requires c.first.ensures refl c.shares_at.ensures, c.first.ensures, refl)
