-- `combination::search::factors_of` meets its contract: the code's table is the definition's, as a whole. Assumes nothing.
use Rattle.std.proofs.Common.{refl}
use Rattle.effects.specs.Check.{place_of}
use Rattle.combination.specs.Factors.{combinations, factor_in, factors}
use Rattle.combination.proofs.search.factors_of.Goals as goal

pub returns : goal.returns
unfolding combinations factor_in place_of factors
returns c = refl
