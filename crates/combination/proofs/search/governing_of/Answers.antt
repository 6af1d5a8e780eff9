-- `combination::search::governing_of` meets its contract: both searches are of the definition's sums. Assumes nothing.
use Rattle.std.proofs.Common.{rules, le_trans, lit≤}
use Rattle.combination.specs.Governing.{greater, less}
use Rattle.combination.specs.Combine.{governing}
use Rattle.combination.proofs.Table.{sums_length, sums_small}
use Rattle.combination.proofs.search.governing_of.Goals as goal

pub invariant_of-sums : goal.invariant_of-sums
invariant_of-sums c = rw c.sums_of.ensures (record {
  held = record { count = sums_length _; each = λ i. le_trans (sums_small _ c.args.effects.seven i) (lit≤ tt) };
})

pub returns : goal.returns
unfolding governing
returns c =
    let greatest = c.governing_row.ensures greater (λ a b r f h p. search rules) in
    let least = c.governing_row-2.ensures less (λ a b r f h p. search rules) in
    rw (greatest, least, c.sums_of.ensures)
