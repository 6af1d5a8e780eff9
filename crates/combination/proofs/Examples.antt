-- Paper 01's combination cases hold: the doubles are taken, and the search computes. Assumes nothing.
use Rattle.lists.specs.Lists.{All, none, more}
use Rattle.newtons.specs.Effect.{limit}
use Rattle.effects.specs.Check.{place_of, newtons_of}
use Rattle.combination.specs.Factors.{combinations, factor_in, factors}
use Rattle.combination.specs.Governing.{sum_of, sums, better, best_from, best}
use Rattle.combination.specs.Combine.{governing}
use Rattle.combination.specs.tables.Examples.{examples, Holds}
use Rattle.effects.proofs.Sevens.{seven_of_lem}
use Rattle.combination.proofs.Answers.{newtons_combined}

pub examples_hold : All Holds examples
unfolding examples newtons_of governing best best_from better sums sum_of factors combinations factor_in place_of
examples_hold = more (newtons_combined _ (seven_of_lem limit _ tt)) (more (newtons_combined _ (seven_of_lem limit _ tt)) none)
