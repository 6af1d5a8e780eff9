-- `text::Sink::signed` meets its contract: the sign where there is one, and the digits of the size after it. Assumes nothing.
use Rattle.std.proofs.Common.{◌≡◌, sym, ◌∙◌, ap, ℤ, pos, nat_abs, w64, to_z, of_z}
use Rattle.std.proofs.lemmas.Int.{to_z-of_z}
use Rattle.std.specs.Int.Signed.{lt_z}
use Rattle.text.proofs.Puts.{put_then}
use Rattle.text.proofs.Sign.{signed_below, signed_from_zero}
use Rattle.text.proofs.Sink.signed.Goals as goal
use Rattle.text.proofs.Sink.signed.Goals.{then-below, else-below}

pub returns : goal.returns
returns g c =
    let same : to_z w64 (of_z w64 c.args.n) ≡ c.args.n = to_z-of_z w64 c.args.n c.ranges.n in
    let size : nat_abs c.args.n ≡ c.unsigned_abs.result = sym (c.unsigned_abs.ensures.value ∙ ap nat_abs same) in
    let sign = ap (λ (z : ℤ). lt_z z (pos 0)) (sym same) in
    elim c.if-below.branch [
      | then-below w ↦ rw (signed_below c.args.n (sign ∙ w.if-below.true), size, c.decimal.ensures, w.self-is, w.text.ensures) (put_then _ _ _ _)
      | else-below w ↦ rw (signed_from_zero c.args.n (sign ∙ w.if-below.false), size, c.decimal.ensures, w.self-is)
    ]
