-- Paper 01, "Numbers by the place of checking": the seven effects, D to E as listed.
-- Assumes nothing.
use Rattle.std.specs.Prelude.{List, [], ◌∷◌, ◌++◌, map, ℕ, ℤ, Float, Result, Ok, Err}
use Rattle.refusal.specs.Refusal.{number_of}
use Rattle.effects.specs.declared.Load.{Load}
use Rattle.effects.specs.declared.Load.TheVariants.{Dead, Live, Roof, Snow, Rain, Wind, Quake}
use Rattle.effects.specs.declared.PerLoad.{PerLoad}
use Rattle.effects.specs.declared.LoadEffect.{LoadEffect}
use Rattle.refusal.specs.declared.Refused.{Refused}
use Rattle.refusal.specs.Said.{Told, gives, refused}
use Rattle.newtons.specs.Effect.{effect_of}

-- 01, Numbers by the place of checking: the place of an effect in the list, D to E
unfoldable pub place_of : Load → ℕ
place_of Dead = 1
place_of Live = 2
place_of Roof = 3
place_of Snow = 4
place_of Rain = 5
place_of Wind = 6
place_of Quake = 7

-- 01, Effects and the 25 combinations: "D dead, L live, Lr roof, S snow, R rain, W wind, E earthquake"
abbrev pub loads : List Load
loads = Dead ∷ Live ∷ Roof ∷ Snow ∷ Rain ∷ Wind ∷ Quake ∷ []

-- 01, Effects and the 25 combinations: the effect of one load, as a double
abbrev pub load_effect : {L : Type 0} → L → Float → LoadEffect L
load_effect l x = record { load = l; double = x }

-- 01, Effects and the 25 combinations: what there is for one load
abbrev pub of_load : {A : Type 0} → PerLoad A → Load → A
of_load p Dead = p.dead
of_load p Live = p.live
of_load p Roof = p.roof
of_load p Snow = p.snow
of_load p Rain = p.rain
of_load p Wind = p.wind
of_load p Quake = p.quake

-- 01, Effects and the 25 combinations: "D dead, L live, Lr roof, S snow, R rain, W wind, E earthquake", in the list's order
unfoldable pub listed : PerLoad Float → List (LoadEffect Load)
listed e = map (λ l. load_effect l (of_load e l)) loads

-- 01, Effects and the 25 combinations: the seven as whole newtons, in the same order
unfoldable pub newtons_of : PerLoad ℤ → List ℤ
newtons_of n = map (of_load n) loads

-- 01, Numbers by the place of checking: goes on with the whole number of an effect, or refuses it with the double as it came
unfoldable pub if_given : {L A : Type 0} → LoadEffect L → Told Float ℤ → (ℤ → Told (LoadEffect L) A) → Told (LoadEffect L) A
if_given e (gives z) next = next z
if_given e (refused n x) next = refused n (load_effect e.load x)

-- 01, Numbers by the place of checking: "D to E as listed, each"; taken are the whole numbers of those before
unfoldable pub checked_from : {L : Type 0} → List ℤ → List (LoadEffect L) → Told (LoadEffect L) (List ℤ)
checked_from taken [] = gives taken
checked_from taken (e ∷ es) = if_given e (effect_of e.double) (λ z. checked_from (taken ++ (z ∷ [])) es)

-- 01, Numbers by the place of checking: the seven effects, D to E
unfoldable pub checked_of : PerLoad Float → Told (LoadEffect Load) (List ℤ)
checked_of e = checked_from [] (listed e)

-- 01, Where each language form belongs: the number and the values of each case
unfoldable pub said_checked : Result (PerLoad ℤ) (Refused (LoadEffect Load)) → Told (LoadEffect Load) (List ℤ)
said_checked (Ok n) = gives (newtons_of n)
said_checked (Err r) = refused (number_of r.refusal) r.back
