-- From the value of a double to what is handed on and to the effect, and what an effect that is given keeps. Assumes nothing.
use Rattle.std.proofs.Common.{◌≡◌, refl, sym, ap, ◌∙◌, subst, Bool, true, false, cond, ℕ, ◌^◌, ◌≤◌, ◌<◌, arith, T, leb, ltb, leb→le, ℤ, nat_abs, Float, le-leb, lt-ltb, le-ltb, ltb-false}
use Rattle.std.specs.Prelude.{Option, Some, None}
use Rattle.std.proofs.lemmas.Bool.{lt-leb}
use Rattle.refusal.specs.Said.{Told, Said, gives, refused, nothing}
use Rattle.newtons.specs.Effect.{Value, whole, not_whole, signed, value_of, held_of, limit, within, limited, effect_of}
use Rattle.newtons.proofs.Word.{size_neg}
use Rattle.newtons.proofs.Values.{Is}

signed_size : (s : Bool) (n : ℕ) → nat_abs (signed s n) ≡ n
unfolding signed
signed_size true n = size_neg n
signed_size false n = refl

-- ---- from the value to what is handed on

pub held_none : {v : Value} → v ≡ not_whole → held_of v ≡ refused 8 nothing
unfolding held_of
held_none h = ap held_of h

pub held_large : {x : Float} {s : Bool} {n : ℕ} → Is x s n → 2 ^ 53 ≤ n → held_of (value_of x) ≡ gives None
unfolding held_of
held_large {x} {s} {n} h l = ap held_of h.is ∙ simp (signed_size s n, le-ltb n (2 ^ 53) l)

pub held_whole : {v : Value} {z : ℤ} → v ≡ whole z → nat_abs z < 2 ^ 53 → held_of v ≡ gives (Some z)
unfolding held_of
held_whole {v} {z} h l = ap held_of h ∙ simp (lt-ltb (nat_abs z) (2 ^ 53) l)

-- of sign s and size n, where the sign is told by a test
pub held_signed : {x : Float} {s : Bool} {n : ℕ} → Is x s n → n < 2 ^ 53 → (b : Bool) → s ≡ b → held_of (value_of x) ≡ gives (Some (signed b n))
held_signed {x} {s} {n} h l b e =
    held_whole (h.is ∙ ap (λ (t : Bool). whole (signed t n)) e) (subst (λ (k : ℕ). k < 2 ^ 53) (sym (signed_size b n)) l)

-- ---- and from there to the effect

pub effect_whole : (x : Float) {z : ℤ} → value_of x ≡ whole z → nat_abs z ≤ limit → effect_of x ≡ gives z
unfolding effect_of limited
effect_whole x {z} h l = ap (limited x) h ∙ simp (le-leb (nat_abs z) limit l)

-- an effect that is given is within the limit
pub effect_within : (x : Float) (z : ℤ) → effect_of x ≡ gives z → nat_abs z ≤ limit
unfolding effect_of limited
effect_within x z h = go (value_of x) h
  where
    pass : (y : ℤ) (t : Bool) → (T t → nat_abs y ≤ limit) → cond t (gives y) (refused 9 x) ≡ gives z → nat_abs z ≤ limit
    pass y true l e = let q : y ≡ z = cc in subst (λ (n : ℤ). nat_abs n ≤ limit) q (l tt)
    pass y false l e = let q : ◌≡◌ {A = ℕ} 0 1 = cc in omega arith

    go : (v : Value) → limited x v ≡ gives z → nat_abs z ≤ limit
    go (whole y) e = pass y (leb (nat_abs y) limit) (leb→le (nat_abs y) limit) e
    go not_whole e = let q : ◌≡◌ {A = ℕ} 0 1 = cc in omega arith

-- 8 and 9 told of what is handed on: a large number is beyond the limit
unfoldable pub limited_held : Float → Said (Option ℤ) → Told Float ℤ
limited_held x (gives (Some z)) = cond (within z) (gives z) (refused 9 x)
limited_held x (gives None) = refused 9 x
limited_held x (refused n _) = refused n x

pub effect_held : (x : Float) → effect_of x ≡ limited_held x (held_of (value_of x))
unfolding effect_of limited limited_held held_of
effect_held x = go (value_of x)
  where
    test : (z : ℤ) (t : Bool) → ltb (nat_abs z) (2 ^ 53) ≡ t → cond (within z) (gives z) (refused 9 x) ≡ limited_held x (gives (cond t (Some z) None))
    test z true e = refl
    test z false e = let h = ltb-false (nat_abs z) (2 ^ 53) e in rw (lt-leb (nat_abs z) limit (omega arith))

    go : (v : Value) → limited x v ≡ limited_held x (held_of v)
    go (whole z) = test z (ltb (nat_abs z) (2 ^ 53)) refl
    go not_whole = refl

module _ (x : Float) where
  decides : {t : Said (Option ℤ)} → t ≡ held_of (value_of x) → limited_held x t ≡ effect_of x
  decides h = ap (limited_held x) h ∙ sym (effect_held x)

  pub held_within : {z : ℤ} → gives (Some z) ≡ held_of (value_of x) → within z ≡ true → gives z ≡ effect_of x
  unfolding limited_held
  held_within h w = rw w at (decides h)

  pub held_past : {z : ℤ} → gives (Some z) ≡ held_of (value_of x) → within z ≡ false → refused 9 x ≡ effect_of x
  unfolding limited_held
  held_past h w = rw w at (decides h)

  pub held_beyond : gives None ≡ held_of (value_of x) → refused 9 x ≡ effect_of x
  unfolding limited_held
  held_beyond h = decides h

  -- a value that is refused is refused with 8
  eight : (v : Value) {n : ℕ} → refused n nothing ≡ held_of v → n ≡ 8
  unfolding held_of
  eight (whole z) e = cc
  eight not_whole e = cc

  pub held_fraction : {n : ℕ} → refused n nothing ≡ held_of (value_of x) → refused 8 x ≡ effect_of x
  unfolding limited_held
  held_fraction h = rw (eight (value_of x) h) at (decides h)
