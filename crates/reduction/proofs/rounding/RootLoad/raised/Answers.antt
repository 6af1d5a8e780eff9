-- `reduction::rounding::RootLoad::raised` meets its contract: what reaches is not below the reduced load. Assumes nothing.
use Rattle.std.proofs.Common.{rules, ◌≡◌, true, false, tests}
use Rattle.std.proofs.lemmas.Iterator.{first_from_Range}
use Rattle.reduction.specs.declared.share.Share.TheVariants.{Root}
use Rattle.reduction.specs.Reduced.{reaches}
use Rattle.reduction.proofs.Found.{root_fits, raised_found}
use Rattle.reduction.proofs.rounding.RootLoad.raised.Goals as goal

pub returns : goal.returns
returns c =
    let at = c.args.self in
    let reached = reaches (Root at.area.influence) at.load in
    let found = first_from_Range _ _ _ c.find.result (λ r. reached r ≡ true) (λ r. reached r ≡ false) c.find.ensures.ran
    (λ x q k. search (rules, tests)) (λ x q k. search (rules, tests)) in
    rw c.unwrap_or.ensures (raised_found (root_fits _ _ at.area.past_cap at.area.before_least at.small) c.guess.result c.find.result found)
