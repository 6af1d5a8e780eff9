-- `combination::search::sums_of` meets its contract: 25 rows, the same of each, for which the search goes deeper than it does alone.
-- Assumes nothing.
use Rattle.std.proofs.Common.{rules}
use Rattle.combination.specs.Factors.{combinations, factors}
use Rattle.combination.specs.Governing.{sums}
use Rattle.combination.proofs.search.sums_of.Goals as goal

pub returns : goal.returns
unfolding sums factors combinations
returns c = search rules depth 60
