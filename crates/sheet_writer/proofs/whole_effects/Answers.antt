-- `sheet_writer::whole_effects` meets its contract: a refused effect comes back as one that is there. Assumes nothing.
use Rattle.std.proofs.Common.{◌≡◌, ◌∙◌, refl, ap, rules, [], ◌∷◌, Some}
use Rattle.refusal.specs.Said.{told, gives}
use Rattle.refusal.proofs.Mapped.{told_mapped}
use Rattle.effects.specs.Check.{checked_from}
use Rattle.sheet_writer.specs.Saving.{six_listed, six_checked, if_whole}
use Rattle.sheet_writer.proofs.whole_effects.Goals as goal
use Rattle.sheet_writer.proofs.whole_effects.Goals.{After-check_each}

-- what is checked are the effects as listed
tells : (c : After-check_each) → told c.check_each.result ≡ six_checked c.args.effects
unfolding six_checked six_listed
tells c = c.check_each.ensures ∙ λ i. checked_from [] (c.new.ensures i ∷ c.new-2.ensures i ∷ c.new-3.ensures i ∷ c.new-4.ensures i ∷ c.new-5.ensures i ∷ c.new-6.ensures i ∷ [])

pub returns : goal.returns
unfolding if_whole
returns c =
    told_mapped Some (λ t. if_whole t (λ zs. gives zs)) (λ zs. refl) (λ n x. refl) c.check_each.result c.map_err.result (λ q y p. search rules) c.map_err.ensures.cases
    ∙ ap (λ t. if_whole t (λ zs. gives zs)) (tells (goal.at.returns c).After-check_each)
