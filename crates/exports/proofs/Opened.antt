-- Opening gives a reached column where its number is 0, also where a caller has places of its own.
-- Assumes nothing.
use Rattle.std.proofs.Common.{◌≡◌, []}
use Rattle.column.specs.declared.Member.{Member}
use Rattle.column.specs.Column.{column_of, opened_of, Reached}
use Rattle.column.proofs.Reach.{given_reached}
use Rattle.exports.specs.declared.changes.BungeroOpened.{BungeroOpened}
use Rattle.exports.specs.declared.changes.BungeroOpenedMember.{BungeroOpenedMember}
use Rattle.exports.specs.Changed.{outcome_of, opened_outcome}

pub reached_whole : (m : Member) (o : BungeroOpened) → outcome_of o ≡ opened_of m → o.number ≡ 0 → Reached o.column
unfolding outcome_of
reached_whole m o e z = given_reached m (rw z at e)

pub reached_empty : (m : Member) (o : BungeroOpenedMember) → opened_outcome o ≡ opened_of m → o.number ≡ 0 → Reached (column_of o.member [])
unfolding opened_outcome
reached_empty m o e z = given_reached m (rw z at e)
