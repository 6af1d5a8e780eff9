-- `reduction::scale::RootArea::rounded_down` meets its contract: the scale is the last number that fits. Assumes nothing.
use Rattle.std.specs.Prelude.{Some}
use Rattle.std.proofs.Common.{rules, ◌≡◌, sym, ◌∙◌, true, false, arith, tests}
use Rattle.std.proofs.lemmas.Option.{same_Some}
use Rattle.reduction.specs.Scale.{root_scale}
use Rattle.reduction.specs.inner.ShareBounds.{fits}
use Rattle.reduction.proofs.Scales.{scale_most}
use Rattle.reduction.proofs.Down.{last_from_Range}
use Rattle.reduction.proofs.Found.{scale_found}
use Rattle.reduction.proofs.scale.RootArea.rounded_down.Goals as goal
use Rattle.reduction.proofs.scale.RootArea.rounded_down.Goals.{After-find}

found : (c : After-find) → c.find.result ≡ Some (root_scale c.args.self.influence)
found c =
    let x = c.args.self.influence in
    let last = last_from_Range (λ s. fits x s ≡ true) (λ s. fits x s ≡ false) _ (λ x q k. search (rules, tests)) (λ x q k. search (rules, tests)) _ _ _
    c.find.result c.rev.ensures.source c.find.ensures.ran in
    scale_found x (omega arith) _ (omega (arith, scale_most x c.args.self.past_cap)) c.find.result last

pub unwrap-requires : goal.unwrap-requires
unwrap-requires c = rw (found c)

pub returns : goal.returns
returns c = same_Some _ _ (sym c.unwrap.ensures ∙ found (goal.at.returns c).After-find)
