-- `reduction::rounding::RootLoad::rounded` meets its contract: the reduced load stands above the last number that does not reach.
-- Assumes nothing.
use Rattle.std.proofs.Common.{rules, ◌≡◌, true, false, tests}
use Rattle.reduction.specs.declared.share.Share.TheVariants.{Root}
use Rattle.reduction.specs.Reduced.{reaches}
use Rattle.reduction.proofs.Down.{last_from_Range}
use Rattle.reduction.proofs.Found.{root_fits, load_found, one_above}
use Rattle.reduction.proofs.rounding.RootLoad.rounded.Goals as goal

pub returns : goal.returns
returns c =
    let at = c.args.self in
    let reached = reaches (Root at.area.influence) at.load in
    let last = last_from_Range (λ r. reached r ≡ false) (λ r. reached r ≡ true) _ (λ x q k. search (rules, tests)) (λ x q k. search (rules, tests)) _ _
    c.raised.result c.find.result c.rev.ensures.source c.find.ensures.ran in
    let found = load_found (root_fits _ _ at.area.past_cap at.area.before_least at.small) c.raised.result c.raised.ensures.0 c.find.result last in
    one_above c.find.result _ c.map_or.ensures (λ j p. search rules) found
