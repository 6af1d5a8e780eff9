-- How long the lines of a sheet are, and the longest sheet.
-- Assumes nothing.
use Rattle.std.proofs.Common.{sym, ap, add-zero, min, ◌≡◌, true, false, List, [], ◌∷◌, ◌++◌, ℕ, ◌+◌, ◌*◌, ◌^◌, ◌≤◌, ◌<◌, arith, ℤ, pos, nat_abs, length, length-append}
use Rattle.std.specs.Int.Signed.{lt_z}
use Rattle.text.specs.Put.{field_parts, put_all}
use Rattle.text.specs.Text.{joined, decimal, signed_decimal}
use Rattle.text.proofs.Puts.{joined_append, joined_length}
use Rattle.text.proofs.Decimal.{length_most}
use Rattle.text.proofs.Sign.{signed_below, signed_from_zero, signed_length}
use Rattle.lists.specs.Lists.{All, none, more}
use Rattle.newtons.specs.Effect.{magnitude_of, limit}
use Rattle.effects.specs.declared.PerLoad.{PerLoad}
use Rattle.column.specs.declared.Line.{Line}
use Rattle.column.specs.Column.{lines_of}
use Rattle.column.specs.inner.Sound.{InLimits}
use Rattle.column.proofs.Lines.{lines_length}
use Rattle.column.proofs.Reach.{sound}
use Rattle.member.proofs.Tests.{limits}
use Rattle.sheet_lines.specs.Form.{member_keys, floor_keys, effect_keys}
use Rattle.sheet_lines.specs.LineText.{line_numbers}
use Rattle.sheet.specs.declared.Sheet.{Sheet}
use Rattle.sheet.specs.Keeps.{Keeps}
use Rattle.sheet_text.specs.Written.{written}
use Rattle.sheet_writer.specs.inner.Counted.{counted}
use Rattle.sheet_writer.specs.inner.Parts.{member_parts, line_parts, floors_parts, effect_parts, effects_parts, sheet_parts}
use Rattle.sheet_writer.proofs.Texts.{sheet_text}
use Rattle.sheet_writer.proofs.Seven.{six_of}

-- by the numbers in them: the member's line, a floor line, and the line of an effect
pub member_length : (code : ℕ) → length (joined (member_parts code)) ≡ 8 + length (decimal code)
unfolding member_parts field_parts member_keys joined
member_length code = simp length-append (omega arith)

pub line_length : (x : Line)
    → length (joined (line_parts x)) ≡ 26 + (length (decimal x.floor) + length (decimal x.class) + length (decimal x.load) + length (decimal x.area.0))
unfolding line_parts field_parts floor_keys line_numbers joined
line_length x = simp length-append (omega arith)

effect_length : (key : List ℕ) (z : ℤ) → length (joined (effect_parts key z)) ≡ length key + length (signed_decimal z) + 1
unfolding effect_parts joined
effect_length key z = simp (length-append, joined_append) (omega arith)

-- a number below 0 has its sign before its digits, and no other has
pub signed_below_length : (z : ℤ) → lt_z z (pos 0) ≡ true → length (signed_decimal z) ≡ length (decimal (nat_abs z)) + 1
unfolding joined
signed_below_length z h = rw (signed_below z h) (simp length-append (omega arith))

pub signed_from_zero_length : (z : ℤ) → lt_z z (pos 0) ≡ false → length (signed_decimal z) ≡ length (decimal (nat_abs z))
unfolding joined
signed_from_zero_length z h = rw (signed_from_zero z h) (simp length-append (omega arith))

-- one effect more, and all six of seven
effects_more : (key : List ℕ) (keys : List (List ℕ)) (z : ℤ) (zs : List ℤ)
    → length (joined (effects_parts (key ∷ keys) (z ∷ zs))) ≡ length key + length (signed_decimal z) + 1 + length (joined (effects_parts keys zs))
unfolding effects_parts
effects_more key keys z zs = omega (arith, joined_length (effect_parts key z) (effects_parts keys zs), effect_length key z)

pub effects_length : (n : PerLoad ℤ)
    → length (joined (effects_parts effect_keys (six_of n)))
    ≡ 37
    + (length (signed_decimal n.dead) + length (signed_decimal n.roof) + length (signed_decimal n.snow))
    + (length (signed_decimal n.rain) + length (signed_decimal n.wind) + length (signed_decimal n.quake))
unfolding effect_keys effects_parts joined
effects_length n =
    simp effects_more (omega arith)

-- texts that are counted have these bytes, where 64 bits hold them
pub counted_all : (n : ℕ) (ts : List (List ℕ)) → n + length (joined ts) < 2 ^ 64 → put_all counted (record { bytes = n }) ts ≡ record { bytes = n + length (joined ts) }
unfolding put_all counted joined
counted_all n [] h = ap (λ (k : ℕ). record { bytes = k }) (sym (add-zero n))
counted_all n (t ∷ ts) h =
    let size = length-append t (joined ts) in
    let one : min (n + length t) 18446744073709551615 ≡ n + length t = omega arith in
    let all : n + length t + length (joined ts) ≡ n + length (t ++ joined ts) = omega arith in
    rw (one, counted_all (n + length t) ts (omega arith), all)

-- ---- the longest sheet

-- a floor line has at most 40 bytes
line_most : (x : Line) → InLimits x → length (joined (line_parts x)) ≤ 40
line_most x h =
    omega (
      arith,
      line_length x,
      length_most 1 x.floor (omega (arith, h.floor)),
      length_most 0 x.class (omega (arith, h.class)),
      length_most 4 x.load (omega (arith, h.load)),
      length_most 5 x.area.0 (omega (arith, h.area)),
    )

floors_most : {xs : List Line} → All InLimits xs → length (joined (floors_parts xs)) ≤ 40 * length xs
unfolding floors_parts joined
floors_most none = omega arith
floors_most (more {x} {xs} h a) = omega (arith, joined_length (line_parts x) (floors_parts xs), line_most x h, floors_most a)

-- the line of an effect has at most 15 bytes behind its key
effects_most : (keys : List (List ℕ)) {zs : List ℤ} → All (λ z. magnitude_of z ≤ limit) zs → length (joined (effects_parts keys zs)) ≤ length (joined keys) + 15 * length zs
unfolding effects_parts joined
effects_most [] a = omega arith
effects_most (key ∷ keys) none = omega arith
effects_most (key ∷ keys) (more {x = z} {xs = zs} h a) =
    omega (
      arith,
      effects_more key keys z zs,
      length-append key (joined keys),
      signed_length z,
      length_most 12 (nat_abs z) (omega (arith, h)),
      effects_most keys a,
    )

-- 02, CR 2: no sheet has more than 10 + 256 × 40 + 31 + 6 × 15 bytes
pub written_most : (s : Sheet) → Keeps s → length (written s) ≤ 10371
unfolding sheet_parts lines_of effect_keys joined
written_most s k =
    let c = s.column in
    let held = sound k.column in
    let fs = floors_parts (lines_of c) in
    let es = effects_parts effect_keys s.effects in
    let code = limits 1 12 c.member.code held.code in
    rw (← sheet_text s)
    (omega (
      arith,
      joined_length (member_parts c.member.code) (fs ++ es),
      joined_length fs es,
      member_length c.member.code,
      length_most 1 c.member.code (omega (arith, code)),
      floors_most held.held.lines,
      lines_length c (omega (arith, held.held.few, held.held.size)),
      held.held.few,
      effects_most effect_keys k.effects.each,
      k.effects.count,
    ))
