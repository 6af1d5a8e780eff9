-- The six effects of a sheet are checked as the seven of an analysis are, with a live effect of 0 among them; and what writing
-- gives by the check of seven.
-- Assumes nothing.
use Rattle.std.proofs.Common.{◌≡◌, refl, sym, ◌∙◌, ap, List, [], ◌∷◌, ℕ, ℤ, pos, arith, Result, Ok, Err, Some, Float}
use Rattle.refusal.specs.declared.Refused.{Refused}
use Rattle.refusal.specs.Refusal.{number_of}
use Rattle.refusal.specs.Said.{Told, gives, refused}
use Rattle.lists.specs.Lists.{none, more}
use Rattle.newtons.specs.Effect.{value_of, signed, effect_of}
use Rattle.newtons.proofs.Limits.{effect_whole}
use Rattle.effects.specs.declared.PerLoad.{PerLoad}
use Rattle.effects.specs.declared.LoadEffect.{LoadEffect}
use Rattle.effects.specs.declared.Load.{Load}
use Rattle.effects.specs.declared.Load.TheVariants.{Dead, Live, Roof, Snow, Rain, Wind, Quake}
use Rattle.effects.specs.Check.{load_effect, listed, newtons_of, if_given, checked_from, checked_of, said_checked}
use Rattle.effects.proofs.Checks.{checked_seven}
use Rattle.column.specs.declared.Column.{Column}
use Rattle.sheet.specs.Keeps.{EffectsWithin}
use Rattle.sheet_text.specs.Written.{written}
use Rattle.sheet_writer.specs.declared.SheetDoubles.{SheetDoubles}
use Rattle.sheet_writer.specs.Saving.{Placed, six_listed, six_checked, no_effect, if_whole, if_room, saving}
use Rattle.sheet_writer.proofs.Checks.{saving_whole}

-- the six effects with a live effect of 0 among them; and six of seven whole numbers
abbrev pub seven_of : SheetDoubles → PerLoad Float
seven_of e =
    record { dead = e.dead; live = no_effect.double; roof = e.roof; snow = e.snow; rain = e.rain; wind = e.wind; quake = e.quake }

abbrev pub six_of : PerLoad ℤ → List ℤ
six_of n = n.dead ∷ n.roof ∷ n.snow ∷ n.rain ∷ n.wind ∷ n.quake ∷ []

-- what is told of seven, without the second of them
without_live : {L : Type 0} → Told L (List ℤ) → Told L (List ℤ)
without_live (gives (d ∷ (l ∷ zs))) = gives (d ∷ zs)
without_live (gives (d ∷ [])) = gives (d ∷ [])
without_live (gives []) = gives []
without_live (refused n e) = refused n e

-- the place of a load on a sheet; and what is told with the places beside the doubles
unfoldable pub sheet_place : Load → ℕ
sheet_place Dead = 1
sheet_place Live = 0
sheet_place Roof = 2
sheet_place Snow = 3
sheet_place Rain = 4
sheet_place Wind = 5
sheet_place Quake = 6

abbrev pub by_place : LoadEffect Load → Placed
by_place e = load_effect (sheet_place e.load) e.double

placed : Told (LoadEffect Load) (List ℤ) → Told Placed (List ℤ)
placed (gives zs) = gives zs
placed (refused n e) = refused n (by_place e)

-- 0 is taken as 0
zero_taken : effect_of no_effect.double ≡ gives (pos 0)
unfolding value_of signed
zero_taken = effect_whole no_effect.double refl (omega arith)

-- the six are checked where the seven are, up to and with the first that is refused
six_among : (e : SheetDoubles) (d r s n w q : Told Float ℤ)
    → effect_of e.dead ≡ d → effect_of e.roof ≡ r → effect_of e.snow ≡ s → effect_of e.rain ≡ n → effect_of e.wind ≡ w → effect_of e.quake ≡ q
    → six_checked e ≡ placed (without_live (checked_of (seven_of e)))
unfolding six_checked six_listed checked_of listed checked_from if_given sheet_place placed without_live
six_among e (refused _ _) _ _ _ _ _ d r s n w q = rw d
six_among e (gives _) (refused _ _) _ _ _ _ d r s n w q = rw (d, zero_taken, r)
six_among e (gives _) (gives _) (refused _ _) _ _ _ d r s n w q = rw (d, zero_taken, r, s)
six_among e (gives _) (gives _) (gives _) (refused _ _) _ _ d r s n w q = rw (d, zero_taken, r, s, n)
six_among e (gives _) (gives _) (gives _) (gives _) (refused _ _) _ d r s n w q = rw (d, zero_taken, r, s, n, w)
six_among e (gives _) (gives _) (gives _) (gives _) (gives _) (refused _ _) d r s n w q = rw (d, zero_taken, r, s, n, w, q)
six_among e (gives _) (gives _) (gives _) (gives _) (gives _) (gives _) d r s n w q = rw (d, zero_taken, r, s, n, w, q)

six_among_seven : (e : SheetDoubles) → six_checked e ≡ placed (without_live (checked_of (seven_of e)))
six_among_seven e = six_among e _ _ _ _ _ _ refl refl refl refl refl refl

module _ (e : SheetDoubles) {r : Result (PerLoad ℤ) (Refused (LoadEffect Load))} (says : said_checked r ≡ checked_of (seven_of e)) where
  -- whole numbers within the limit, which are then those of the sheet
  pub six_whole : {n : PerLoad ℤ} → r ≡ Ok n → six_checked e ≡ gives (six_of n)
  unfolding said_checked newtons_of without_live placed
  six_whole {n} q = six_among_seven e ∙ ap (λ t. placed (without_live t)) (sym says ∙ ap said_checked q)

  pub six_within : {n : PerLoad ℤ} → r ≡ Ok n → EffectsWithin (six_of n)
  unfolding said_checked newtons_of
  six_within {n} q =
      let s = checked_seven (seven_of e) {xs = newtons_of n} (sym says ∙ ap said_checked q) in
      record {
        count = refl;
        each = more (s.each 0) (more (s.each 2) (more (s.each 3) (more (s.each 4) (more (s.each 5) (more (s.each 6) none)))));
      }

  -- or the first effect that is refused
  six_refused : {q : Refused (LoadEffect Load)} → r ≡ Err q → six_checked e ≡ refused (number_of q.refusal) (by_place q.back)
  unfolding said_checked without_live placed
  six_refused {q} h = six_among_seven e ∙ ap (λ t. placed (without_live t)) (sym says ∙ ap said_checked h)

  -- and what writing gives then
  pub saving_whole_of_seven : (c : Column) (room : ℕ) {n : PerLoad ℤ} → r ≡ Ok n → saving c e room ≡ if_room room (written (record { column = c; effects = six_of n }))
  saving_whole_of_seven c room h = saving_whole c e room (six_whole h)

  pub saving_refused_of_seven : (c : Column) (room : ℕ) {q : Refused (LoadEffect Load)} → r ≡ Err q → saving c e room ≡ refused (number_of q.refusal) (Some (by_place q.back))
  unfolding saving if_whole
  saving_refused_of_seven c room h = rw (six_refused h)
