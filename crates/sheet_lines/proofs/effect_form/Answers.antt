-- `sheet_lines::effect_form` meets its contract: the key, a minus sign or none, and the number. Assumes nothing.
use Rattle.std.proofs.Common.{◌≡◌, sym, ◌∙◌, ap, false, ℕ, ◌<◌, arith, ℤ, pos, neg_ℤ, ◌-ℤ◌, w64, SFits, to_z, of_z, eq-eqb, ne_eqb}
use Rattle.std.specs.Prelude.{Some}
use Rattle.std.proofs.Math.IntN.{+ℤ_idl}
use Rattle.std.proofs.Math.Path.{subst⁻¹}
use Rattle.std.proofs.lemmas.Int.{to_z_pos}
use Rattle.newtons.specs.Effect.{signed}
use Rattle.newtons.proofs.Word.{size_neg, small_fits, kept}
use Rattle.sheet_lines.specs.declared.Form.TheVariants.{Effect}
use Rattle.sheet_lines.specs.Number.{begins}
use Rattle.sheet_lines.specs.Form.{effect_form}
use Rattle.sheet_lines.proofs.AtPlace.{strip_is}
use Rattle.sheet_lines.proofs.Moved.{plain_form, signed_form}
use Rattle.sheet_lines.proofs.effect_form.Goals as goal

-- a number of 13 digits fits a signed word, and so does its opposite
module _ (n : ℕ) (h : n < 10000000000000) where
  fits : SFits w64 (pos n)
  fits = small_fits {n = n} (omega arith) (omega arith)

  as-pos : to_z w64 n ≡ pos n
  as-pos = to_z_pos w64 n (omega arith)

  opposite : pos 0 -ℤ to_z w64 n ≡ neg_ℤ (pos n)
  opposite = rw as-pos (+ℤ_idl (neg_ℤ (pos n)))

  opposite-fits : SFits w64 (pos 0 -ℤ to_z w64 n)
  opposite-fits = subst⁻¹ (SFits w64) opposite (small_fits {n = n} (omega (arith, size_neg n)) (omega arith))

  opposite-kept : to_z w64 (of_z w64 (pos 0 -ℤ to_z w64 n)) ≡ neg_ℤ (pos n)
  opposite-kept = ap (λ (z : ℤ). to_z w64 (of_z w64 z)) opposite ∙ kept {n = n} (omega (arith, size_neg n)) (omega arith)

pub returns-in_err-number : goal.returns-in_err-number
unfolding effect_form
returns-in_err-number c =
    let no : begins c.args.key.now c.args.line.now ≡ false = sym (strip_is _ _) ∙ c.in_err-number.ensures.cases in
    rw (c.from_residual.ensures, no)

pub returns-in_err-load : goal.returns-in_err-load
returns-in_err-load c =
    let s = c.in_ok-number.ensures.cases in
    c.from_residual-in_err-load.ensures ∙ sym (plain_form c.args.place c.args.key.now c.args.line.now s.0 s.1 (omega (arith, s.2)) c.in_default.ensures.cases (sym c.whole_number.ensures.value ∙ c.in_err-load.was))

pub overflow_cast-result : goal.overflow_cast-result
overflow_cast-result c = fits _ c.in_ok-load.ensures.small

pub returns-in_default : goal.returns-in_default
unfolding signed
returns-in_default c =
    let s = c.in_ok-number.ensures.cases in
    ap (λ (z : ℤ). Some (Effect c.args.place z)) (as-pos _ c.in_ok-load.ensures.small)
    ∙ sym (plain_form c.args.place c.args.key.now c.args.line.now s.0 s.1 (omega (arith, s.2)) c.in_default.ensures.cases (sym c.whole_number.ensures.value ∙ c.in_ok-load.was))

pub returns-in_err-uplift : goal.returns-in_err-uplift
returns-in_err-uplift c =
    let s = c.in_ok-number.ensures.cases in
    let m = c.in-Some.ensures.cases in
    c.from_residual-in_err-uplift.ensures ∙ sym (signed_form c.args.place c.args.key.now c.args.line.now s.0 s.1 (omega (arith, s.2)) m.0 m.1 (omega (arith, m.2)) (sym c.whole_number-2.ensures.value ∙ c.in_err-uplift.was))

pub returns-then-uplift-eq0 : goal.returns-then-uplift-eq0
returns-then-uplift-eq0 c =
    let s = c.in_ok-number.ensures.cases in
    let m = c.in-Some.ensures.cases in
    sym (signed_form c.args.place c.args.key.now c.args.line.now s.0 s.1 (omega (arith, s.2)) m.0 m.1 (omega (arith, m.2)) (sym c.whole_number-2.ensures.value ∙ c.in_ok-uplift.was) ∙ rw (eq-eqb _ _ c.if-uplift-eq0.true))

pub overflow_cast-result-2 : goal.overflow_cast-result-2
overflow_cast-result-2 c = fits _ c.in_ok-uplift.ensures.small

pub overflow_sub-result : goal.overflow_sub-result
overflow_sub-result c = opposite-fits _ c.in_ok-uplift.ensures.small

pub returns : goal.returns
unfolding signed
returns c =
    let s = c.in_ok-number.ensures.cases in
    let m = c.in-Some.ensures.cases in
    sym (signed_form c.args.place c.args.key.now c.args.line.now s.0 s.1 (omega (arith, s.2)) m.0 m.1 (omega (arith, m.2)) (sym c.whole_number-2.ensures.value ∙ c.in_ok-uplift.was)
    ∙ rw (ne_eqb _ _ c.if-uplift-eq0.false) (ap (λ (z : ℤ). Some (Effect c.args.place z)) (sym (opposite-kept _ c.in_ok-uplift.ensures.small))))
