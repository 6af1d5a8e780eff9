-- What an answer says leaves one answer: each refusal has its own number.
-- Assumes nothing.
use denote.Enum.Bare.{tag_one}
use denote.Enum.Declared.{tag_of}
use Rattle.std.proofs.Common.{◌≡◌, refl, sym, ◌∙◌, ap, false, ℕ, zero, suc, ◌+◌, ◌≤◌, arith, eqb, ne_eqb}
use Rattle.std.specs.Prelude.{Result, Ok, Err, IsOk}
use Rattle.refusal.specs.declared.Refusal.{Refusal}
use Rattle.refusal.specs.declared.Refusal.TheVariants.{UnknownCode, TooManyLines, FloorOutOfRange, UnknownClass, LoadOutOfRange, AreaOutOfRange}
use Rattle.refusal.specs.declared.Refusal.TheVariants.{NoLineAtFloor, EffectNotWhole, EffectOutOfRange, SheetMalformed, SheetTooLong, BufferTooShort}
use Rattle.refusal.specs.declared.Refused.{Refused}
use Rattle.refusal.specs.contracts.Refusal.{the_type}
use Rattle.refusal.specs.Refusal.{number_of}
use Rattle.refusal.specs.Said.{gives, refused, nothing, said, told}

-- the number of a case is the one that stands beside it, and the cases are numbered in a row
pub numbered : (r : Refusal) → tag_of the_type r + 1 ≡ number_of r
unfolding number_of
numbered UnknownCode = refl
numbered TooManyLines = refl
numbered FloorOutOfRange = refl
numbered UnknownClass = refl
numbered LoadOutOfRange = refl
numbered AreaOutOfRange = refl
numbered NoLineAtFloor = refl
numbered EffectNotWhole = refl
numbered EffectOutOfRange = refl
numbered SheetMalformed = refl
numbered SheetTooLong = refl
numbered BufferTooShort = refl

-- two refusals with one number are one refusal
pub number_injective : (q r : Refusal) → number_of q ≡ number_of r → q ≡ r
number_injective q r e = tag_one the_type tt q r (omega (arith, numbered q, numbered r))

-- no refusal has the number 0
pub number_positive : (r : Refusal) → 1 ≤ number_of r
number_positive r = omega (arith, numbered r)

-- two answers that say the same are one answer
pub said_injective : {A : Type 0} (a b : Result A Refusal) → said a ≡ said b → a ≡ b
unfolding said
said_injective (Ok x) (Ok y) e = cc
said_injective (Err q) (Err r) e = let same : number_of q ≡ number_of r = cc in ap Err (number_injective q r same)
said_injective (Ok x) (Err r) e = cc
said_injective (Err q) (Ok y) e = cc

pub told_injective : {A B : Type 0} (a b : Result A (Refused B)) → told a ≡ told b → a ≡ b
unfolding told
told_injective (Ok x) (Ok y) e = cc
told_injective (Err q) (Err r) e =
    let same : number_of q.refusal ≡ number_of r.refusal = cc in
    let one : q.refusal ≡ r.refusal = number_injective q.refusal r.refusal same in
    let back : q.back ≡ r.back = cc in
    rw (one, back)
told_injective (Ok x) (Err r) e = cc
told_injective (Err q) (Ok y) e = cc

-- so a number tells whether something is refused
pub by_number : {P : Type 0} (n : ℕ) → (n ≡ 0 → P) → (1 ≤ n → P) → P
by_number zero none some = none refl
by_number (suc n) none some = some (omega arith)

pub positive : {n : ℕ} → (n ≡ 0 → ⊥) → 1 ≤ n
positive {n} h = omega arith

pub not_zero : {n : ℕ} → 1 ≤ n → eqb n 0 ≡ false
not_zero {n} h = ne_eqb n 0 (λ q. omega arith)

-- an answer that says what it gives is no refusal, and gives that value
pub is_given : {A : Type 0} (a : Result A Refusal) {y : A} → said a ≡ gives y → a ≡ Ok y
unfolding said
is_given (Ok x) {y} q = cc
is_given (Err r) {y} q = cc

pub gives_it : {A : Type 0} {a : Result A Refusal} {x y : A} → a ≡ Ok x → said a ≡ gives y → x ≡ y
gives_it {A} {a} p q = let is = is_given a q in cc

pub gives_not_refused : {A : Type 0} {a : Result A Refusal} {r : Refusal} {y : A} → a ≡ Err r → said a ≡ gives y → ⊥
unfolding said
gives_not_refused {A} {a} {r} {y} p q =
    let e : refused (number_of r) nothing ≡ gives y = ap said (sym p) ∙ q in
    let z : ◌≡◌ {A = ℕ} 0 1 = cc in
    omega arith

pub gives_ok : {A : Type 0} (a : Result A Refusal) {y : A} → said a ≡ gives y → IsOk a
gives_ok a {y} q = let is : a ≡ Ok y = is_given a q in rw is

-- the same where something comes back
pub told_is_given : {A B : Type 0} (a : Result A (Refused B)) {y : A} → told a ≡ gives y → a ≡ Ok y
unfolding told
told_is_given (Ok x) {y} q = cc
told_is_given (Err r) {y} q = cc

pub told_gives_it : {A B : Type 0} {a : Result A (Refused B)} {x y : A} → a ≡ Ok x → told a ≡ gives y → x ≡ y
told_gives_it {A} {B} {a} p q = let is = told_is_given a q in cc
