-- What the structs of numbers say that opening, entering and pasting hand to C and Rust.
-- Assumes nothing.
use Rattle.std.specs.Prelude.{List, [], ℕ}
use Rattle.column.specs.declared.Member.{Member}
use Rattle.column.specs.Column.{Outcome}
use Rattle.column.specs.Column.{column_of, column_from}
use Rattle.column.specs.Pasted.{Pasting}
use Rattle.exports.specs.declared.changes.BungeroOpened.{BungeroOpened}
use Rattle.exports.specs.declared.changes.BungeroOpenedMember.{BungeroOpenedMember}
use Rattle.exports.specs.declared.changes.BungeroEntered.{BungeroEntered}
use Rattle.exports.specs.declared.changes.BungeroPasted.{BungeroPasted}

-- 01, Numbers by the place of checking: the outcome of opening a member
unfoldable pub outcome_of : BungeroOpened → Outcome
outcome_of o = record { number = o.number; column = o.column }

-- No part of the paper: the outcome of opening where a caller has places of its own
unfoldable pub opened_outcome : BungeroOpenedMember → Outcome
opened_outcome o = record { number = o.number; column = column_of o.member [] }

-- No part of the paper: the outcome of entering in place, which leaves the column that the member, the count and the places
-- make
unfoldable pub joined_outcome : Member → BungeroEntered → List ℕ → Outcome
joined_outcome m j places = record { number = j.number; column = column_from m j.count places }

-- No part of the paper: what the answer of a paste in place says, whose column is the one that the member, the count in it
-- and the places then make
unfoldable pub pasted_outcome : Member → BungeroPasted → List ℕ → Pasting
pasted_outcome m p places = record { number = p.number; kept = p.kept; column = column_from m p.count places }
