-- Paper 01, "Effects and the 25 combinations": what a double says as an effect in newtons.
-- A double is `nan`, an infinity `inf s`, or `fin s m e`: the number m × 2^e, negative where s is true.
-- 2^e is the fraction up e / down e, so the size of the double is m × up e / down e.
-- Assumes nothing.
use Rattle.std.specs.Prelude.{Bool, true, false, cond, ℕ, ◌*◌, ◌/◌, ◌%◌, ◌^◌, leb, ltb, eqb, ℤ, pos, neg_ℤ, nat_abs, Float, Option, Some, None}
use Rattle.std.specs.Float.{nan, inf, fin}
use Rattle.std.specs.Float.Ieee.{up, down}
use Rattle.refusal.specs.Refusal.{number_of}
use Rattle.refusal.specs.declared.Refusal.TheVariants.{EffectNotWhole, EffectOutOfRange}
use Rattle.newtons.specs.declared.Effect.{Effect}
use Rattle.newtons.specs.declared.Effect.TheVariants.{Whole, NotWhole, Beyond}
use Rattle.refusal.specs.Said.{Told, Said, gives, refused, nothing}

-- 01, Numbers by the place of checking: the value of a double, a whole number or not
pub data Value : Type 0 where
  whole : ℤ → Value
  not_whole : Value

-- 01, Effects and the 25 combinations: "minus zero counts as 0"
unfoldable pub signed : Bool → ℕ → ℤ
signed true n = neg_ℤ (pos n)
signed false n = pos n

-- 01, Numbers by the place of checking: the value of sign s and size a / c, which is a whole number where c divides a
abbrev pub fraction : Bool → ℕ → ℕ → Value
fraction s a c = cond (eqb (a % c) 0) (whole (signed s (a / c))) not_whole

-- 01, Numbers by the place of checking: a whole number, or not ("NaN and infinities too")
unfoldable pub value_of : Float → Value
value_of nan = not_whole
value_of (inf s) = not_whole
value_of (fin s m e) = fraction s (m * up e) (down e)

-- 01, Numbers by the place of checking: 8, "not a whole number", told of the value alone; none where it is 2^53 or more in size,
-- a cut that is not of the paper: from there on every double is whole and few fit 64 bits
unfoldable pub held_of : Value → Said (Option ℤ)
held_of (whole z) = gives (cond (ltb (nat_abs z) (2 ^ 53)) (Some z) None)
held_of not_whole = refused 8 nothing

-- 01, Effects and the 25 combinations: what is held against "±1,000,000,000,000": how large a number is, whatever its sign
abbrev pub magnitude_of : ℤ → ℕ
magnitude_of z = nat_abs z

-- 01, Effects and the 25 combinations: "within ±1,000,000,000,000"
abbrev pub limit : ℕ
limit = 1000000000000

-- 01, Numbers by the place of checking: a whole number is not "beyond ±1,000,000,000,000"
abbrev pub within : ℤ → Bool
within z = leb (magnitude_of z) limit

-- 01, Numbers by the place of checking: 8, not a whole number; then 9, beyond the limit; the double x comes back
unfoldable pub limited : Float → Value → Told Float ℤ
limited x not_whole = refused 8 x
limited x (whole z) = cond (within z) (gives z) (refused 9 x)

-- 01, Numbers by the place of checking: what a double gives as an effect, or 8 or 9
unfoldable pub effect_of : Float → Told Float ℤ
effect_of x = limited x (value_of x)

-- 01, Where each language form belongs: "enum: whole number, not whole (f64), beyond limit (f64)": the number and the values of
-- each case
unfoldable pub said_effect : Effect → Told Float ℤ
said_effect (Whole z) = gives z
said_effect (NotWhole x) = refused (number_of EffectNotWhole) x
said_effect (Beyond x) = refused (number_of EffectOutOfRange) x
