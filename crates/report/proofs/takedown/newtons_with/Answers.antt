-- `report::takedown::newtons_with` meets its contract: 64 bits keep an effect within the limit. Assumes nothing.
use Rattle.std.proofs.Common.{◌≡◌, refl, ◌∙◌, ℕ, ◌+◌, ◌/◌, ◌≤◌, arith, pos, get_or, w64, to_z, of_z}
use Rattle.std.proofs.lemmas.Int.{to_z_pos}
use Rattle.figure.proofs.Lowest.{lowest_most}
use Rattle.column.proofs.Seen.{seen_reached}
use Rattle.sheet.proofs.Kept.{each_within}
use Rattle.report.specs.Report.{live_of, effects_with, effects_of}
use Rattle.report.proofs.Live.{effect_kept}
use Rattle.report.proofs.takedown.newtons_with.Goals as goal

pub returns : goal.returns
unfolding effects_of effects_with live_of
returns c =
    let s = c.args.sheet in
    let at : (k : ℕ) → to_z w64 (of_z w64 (get_or s.effects k (pos 0))) ≡ get_or s.effects k (pos 0) = λ k. effect_kept (get_or s.effects k (pos 0)) (each_within c.requires.within k) in
    let most : c.args.lowest ≤ 2560000000000 = rw c.requires.lowest (lowest_most (seen_reached s.column)) in
    let live : c.div_ceil-live.result ≡ (c.args.lowest + 99) / 100 = c.div_ceil-live.ensures ∙ omega arith in
    rw (to_z_pos w64 c.div_ceil-live.result (omega (arith, live, most)), live, c.requires.lowest, at 0, at 1, at 2, at 3, at 4, at 5) refl
