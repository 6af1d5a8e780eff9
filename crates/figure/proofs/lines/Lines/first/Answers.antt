-- `figure::lines::Lines::first` meets its contract. Assumes nothing.
use Rattle.figure.proofs.HeldLines.{lines_lined, lines_ordered, lined_take, ordered_take}
use Rattle.figure.proofs.lines.Lines.first.Goals as goal

pub invariant_of-result : goal.invariant_of-result
invariant_of-result c =
    let lines = c.args.self in
    record { lined = ∣ lined_take c.args.count lines.numbers.now (lines_lined lines) ∣₁; ordered = ∣ ordered_take c.args.count lines.numbers.now (lines_ordered lines) ∣₁ }
