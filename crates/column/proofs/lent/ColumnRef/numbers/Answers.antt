-- `column::lent::ColumnRef::numbers` meets its contract: a column that is lent holds at most 256 lines. Assumes nothing.
use Rattle.std.proofs.Common.{arith}
use Rattle.column.proofs.Seen.{seen_few}
use Rattle.column.proofs.lent.ColumnRef.numbers.Goals as goal

pub shared_ref_as_front-result : goal.shared_ref_as_front-result
shared_ref_as_front-result c = omega (arith, seen_few c.args.self)
