-- `combination::search::sum_at` meets its contract: a row of the table is the definition's, and fits. Assumes nothing.
use Rattle.std.proofs.Common.{rules}
use Rattle.combination.proofs.Table.{row_fits, sum_at}
use Rattle.combination.proofs.search.sum_at.Goals as goal

pub sum_of-requires : goal.sum_of-requires
sum_of-requires c = rw c.requires.table (row_fits c.args.row c.requires.row)

pub returns : goal.returns
returns c = rw sum_at (search rules)
