-- `sheet::steps::Draft::take_effect` meets its contract. Assumes nothing.
use Rattle.std.proofs.Common.{◌≡◌, ◌∙◌, sym, ap, true, false, w64, to_z-of_z}
use Rattle.member.proofs.Tests.{passed, failed}
use Rattle.refusal.specs.Refusal.{number_of}
use Rattle.refusal.specs.Said.{number_told}
use Rattle.newtons.specs.Effect.{within}
use Rattle.sheet.specs.Sheet.{effect_number, if_taken, valued}
use Rattle.sheet.proofs.steps.Draft.take_effect.Goals as goal

pub returns-then-not-is_within : goal.returns-then-not-is_within
unfolding valued if_taken effect_number number_told number_of
returns-then-not-is_within c =
    let beyond : within c.args.newtons ≡ false = sym (ap within (to_z-of_z {w = w64} c.ranges.newtons)) ∙ failed c.is_within.ensures c.if-not-is_within.true in
    rw beyond

pub returns : goal.returns
unfolding valued if_taken effect_number number_told
returns c =
    let whole = to_z-of_z {w = w64} c.ranges.newtons in
    let taken : within c.args.newtons ≡ true = sym (ap within whole) ∙ passed c.is_within.ensures c.if-not-is_within.false in
    rw (whole, taken)
