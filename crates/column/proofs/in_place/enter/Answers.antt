-- `column::in_place::enter` meets its contract: the places of a reached column hold lines within the limits. Assumes nothing.
use Rattle.column.proofs.InPlace.{reached_held}
use Rattle.column.proofs.in_place.enter.Goals as goal

pub last_floor_of-last-requires : goal.last_floor_of-last-requires
last_floor_of-last-requires c = reached_held c.requires
