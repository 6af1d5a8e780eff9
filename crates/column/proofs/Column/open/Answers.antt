-- `column::Column::open` meets its contract: a column without lines is reached where the opening is not refused. Assumes nothing.
use Rattle.std.proofs.Common.{rules, ◌≡◌, Ok}
use Rattle.column.specs.Column.{column_of, member_of}
use Rattle.column.proofs.Reach.{opened_reached}
use Rattle.column.proofs.Column.open.Goals as goal

pub returns-clause-reached : goal.returns-clause-reached
unfolding column_of
returns-clause-reached c =
    let was : c.open.result ≡ Ok c.in_ok-member.member = search rules in
    opened_reached (member_of c.args.code) c.open.ensures was
