-- `reduction::scale::RootArea::nearer` meets its contract: a step does not end below the root, and its divisor is not small.
-- Assumes nothing.
use Rattle.std.proofs.Common.{◌*◌, ◌/◌, ◌≤◌, le_trans, mul-le-mul, mul-le-mul_left, div-mul-le_self, arith}
use Rattle.reduction.proofs.Scales.{step_above}
use Rattle.reduction.proofs.scale.RootArea.nearer.Goals as goal

pub returns : goal.returns
returns c =
    let x = c.args.self.influence in
    let d = 25 * x.0 * c.args.near in
    let q = 918527615797559296 / d in
    let low : 92825 ≤ 25 * x.0 = omega arith in
    let divisor : 92825 * 1 ≤ d = mul-le-mul low c.requires.0 in
    let most : q * 92825 ≤ 918527615797559296 = le_trans (mul-le-mul_left q divisor) (div-mul-le_self 918527615797559296 d) in
    (step_above x c.args.near c.requires.0 (omega arith), omega (arith, most))
