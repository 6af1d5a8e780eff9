-- `column::in_place::enter_below` meets its contract: the column with the accepted line is reached. Assumes nothing.
use Rattle.refusal.specs.Said.{number_told}
use Rattle.column.specs.Column.{count_after}
use Rattle.column.proofs.InPlace.{joined_reached}
use Rattle.column.proofs.in_place.enter_below.Goals as goal

pub returns-clause-reached : goal.returns-clause-reached
unfolding count_after number_told
returns-clause-reached c = rw c.number_of.ensures (joined_reached c.requires.reached c.requires.last c.args.line c.in_ok-check.ensures.number)
