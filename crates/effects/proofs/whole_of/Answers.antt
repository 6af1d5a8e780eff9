-- `effects::whole_of` meets its contract: a refusal is that of the double, with the load beside it. Assumes nothing.
use Rattle.std.proofs.Common.{◌∙◌, refl, ap, rules}
use Rattle.refusal.specs.Said.{gives}
use Rattle.refusal.proofs.Mapped.{told_mapped}
use Rattle.effects.specs.Check.{load_effect, if_given}
use Rattle.effects.proofs.whole_of.Goals as goal

pub returns : goal.returns
unfolding if_given
returns g c =
    let e = c.args.effect in
    told_mapped (load_effect e.load) (λ t. if_given e t (λ z. gives z)) (λ z. refl) (λ n x. refl) c.checked.result c.map_err.result (λ q y p. search rules) c.map_err.ensures.cases
    ∙ ap (λ t. if_given e t (λ z. gives z)) (c.checked.ensures ∙ c.whole_of.ensures)
