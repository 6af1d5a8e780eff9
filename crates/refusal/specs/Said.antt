-- What an answer says in paper 01's terms: the value it gives, or the number of a refusal and what comes back with it.
-- Assumes nothing.
use Rattle.std.specs.Prelude.{ℕ, Result, Ok, Err}
use Rattle.refusal.specs.declared.Refusal.{Refusal}
use Rattle.refusal.specs.declared.Refused.{Refused}
use Rattle.refusal.specs.Refusal.{number_of}

-- 01, Numbers by the place of checking: what is given, or the number of the first condition that holds, with what comes back,
-- "the double as it came" (Effects and the 25 combinations) or the "place of the first one" (Member, line, floor)
pub data Told (Back A : Type 0) : Type 0 where
  gives : A → Told Back A
  refused : ℕ → Back → Told Back A

-- 01, Numbers by the place of checking: the same where nothing comes back but the number
abbrev pub Said : Type 0 → Type 0
Said A = Told (Unit {0}) A

-- 01, Numbers by the place of checking: what comes back then
abbrev pub nothing : Unit {0}
nothing = tt

-- 01, Where each language form belongs: the number and the value of each case of an answer
unfoldable pub said : {A : Type 0} → Result A Refusal → Said A
said (Ok a) = gives a
said (Err r) = refused (number_of r) nothing

-- 01, Where each language form belongs: the same of an answer with which something comes back
unfoldable pub told : {A B : Type 0} → Result A (Refused B) → Told B A
told (Ok a) = gives a
told (Err r) = refused (number_of r.refusal) r.back

-- 01, Numbers by the place of checking: the number of the first condition that holds; 0 where none does
unfoldable pub number_told : {A : Type 0} → Result A Refusal → ℕ
number_told (Ok a) = 0
number_told (Err r) = number_of r
