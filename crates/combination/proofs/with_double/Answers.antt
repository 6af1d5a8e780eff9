-- `combination::with_double` meets its contract: a refusal keeps its number, with the load's double beside it. Assumes nothing.
use Rattle.std.proofs.Common.{refl, rules}
use Rattle.refusal.proofs.Mapped.{told_mapped}
use Rattle.effects.specs.Check.{load_effect, of_load}
use Rattle.combination.specs.Combine.{with_double}
use Rattle.combination.proofs.with_double.Goals as goal

pub returns : goal.returns
unfolding with_double
returns c =
    let e = c.args.effects in
    told_mapped (λ l. load_effect l (of_load e l)) (with_double e) (λ g. refl) (λ n l. refl) c.args.governed c.map_err.result (λ r y q. search rules) c.map_err.ensures.cases
