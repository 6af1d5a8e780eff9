-- `figure::lines::Lines::of` meets its contract: a column that is lent is a reached one. Assumes nothing.
use Rattle.column.specs.inner.Sound.{InLimits}
use Rattle.column.proofs.Reach.{sound, sound_lines}
use Rattle.column.proofs.Seen.{seen_reached}
use Rattle.figure.proofs.Order.{reached_ordered}
use Rattle.figure.proofs.HeldLines.{each_of}
use Rattle.figure.proofs.lines.Lines.of.Goals as goal

pub invariant_of-result : goal.invariant_of-result
invariant_of-result c =
    let reached = seen_reached c.args.column in
    let lines = c.numbers.ensures.lines in
    record { lined = ∣ (c.numbers.ensures.few, each_of {P = InLimits} c.numbers.result.now (rw lines (sound_lines (sound reached)))) ∣₁; ordered = ∣ rw lines (reached_ordered reached) ∣₁ }
