-- `combination::govern` meets its contract: the load found is the first whose number is beyond the limit. Assumes nothing.
use Rattle.std.proofs.Common.{◌≡◌, refl, sym, ◌∙◌, ap, rules}
use borrow.Author.Tests.{tests}
use Rattle.std.proofs.Math.Path.{subst⁻¹}
use Rattle.std.specs.Option.{option_map}
use Rattle.std.specs.List.{find}
use Rattle.std.proofs.lemmas.Iterator.{YieldsList-from_slice}
use Rattle.std.proofs.lemmas.Iterator.Search.{find_from_yields_List}
use Rattle.refusal.specs.Refusal.{number_of}
use Rattle.refusal.specs.Said.{gives, told}
use Rattle.newtons.specs.Effect.{limit}
use Rattle.effects.specs.declared.Load.{Load}
use Rattle.effects.specs.Check.{loads, newtons_of}
use Rattle.effects.specs.inner.Sized.{Seven}
use Rattle.combination.specs.declared.Governing.{Governing}
use Rattle.combination.specs.Combine.{governing, governed, NothingLost}
use Rattle.combination.proofs.Answers.{rows_exact, beyond, told_found, limited_found, none_found, newtons_governed}
use Rattle.combination.proofs.govern.Goals as goal
use Rattle.combination.proofs.govern.Goals.{After-find, In-None}

-- what was found
found : (c : After-find) → option_map (λ l. l.now) c.find.result ≡ find (beyond c.args.newtons) loads
found c = find_from_yields_List (beyond c.args.newtons) _ _ c.find.result c.find.ensures.ran (YieldsList-from_slice loads cc) (λ x b q k. search (rules, tests))

-- where none is, all seven are within the limit
seven : (c : In-None) → Seven limit (newtons_of c.args.newtons)
unfolding newtons_of
seven c = record { count = refl; each = none_found c.args.newtons loads (sym (found (goal.at.In-None c).After-find) ∙ ap (option_map (λ l. l.now)) c.in-None.is) }

pub returns-in-Some : goal.returns-in-Some
unfolding told number_of governed newtons_of NothingLost
returns-in-Some c =
    let n = c.args.newtons in
    let is = sym (found (goal.at.returns-in-Some c).After-find) ∙ ap (option_map (λ l. l.now)) c.in-Some.is in
    (sym (limited_found n loads (governing (newtons_of n)) ∙ ap (λ o. told_found o (governing (newtons_of n))) is), tt)

pub invariant_of-governing_of : goal.invariant_of-governing_of
unfolding newtons_of
invariant_of-governing_of c = rw c.in_order.ensures (record { seven = seven (goal.at.invariant_of-governing_of c).In-None })

pub returns-in-None : goal.returns-in-None
unfolding told newtons_of
returns-in-None c =
    let s = seven (goal.at.returns-in-None c).In-None in
    let is = c.governing_of.ensures ∙ ap governing c.in_order.ensures in (
      ap gives is ∙ sym (newtons_governed c.args.newtons s),
      subst⁻¹ (λ (g : Governing). NothingLost {Back = Load} (gives g)) is (rows_exact Load _ s),
    )
