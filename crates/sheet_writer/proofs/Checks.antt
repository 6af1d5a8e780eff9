-- The six effects of a sheet, each checked as it is read off its double; and what writing gives by that check.
-- Assumes nothing.
use Rattle.std.proofs.Common.{◌≡◌, sym, ap, true, false, List, ℕ, leb, length, ℤ, Option, Some, None, Ok, Err}
use Rattle.std.specs.Prelude.{unwrap_or}
use Rattle.refusal.specs.declared.Refused.{Refused}
use Rattle.refusal.specs.Refusal.{number_of}
use Rattle.refusal.specs.Said.{Told, gives, refused, told}
use Rattle.column.specs.declared.Column.{Column}
use Rattle.sheet_text.specs.Written.{written}
use Rattle.sheet_writer.specs.declared.SheetDoubles.{SheetDoubles}
use Rattle.sheet_writer.specs.Saving.{Placed, six_checked, no_effect, if_whole, if_room, saving, sized, saved_of}

-- what is told of all six tells how they are checked
pub six_taken_are : (t : Told Placed (List ℤ)) {zs : List ℤ} → told {B = Option Placed} (Ok zs) ≡ if_whole t (λ ys. gives ys) → t ≡ gives zs
unfolding told if_whole
six_taken_are (gives ys) {zs} h = let q : zs ≡ ys = cc in ap gives (sym q)
six_taken_are (refused n e) {zs} h = cc

module _ (c : Column) (e : SheetDoubles) (room : ℕ) where
  -- and what writing gives then
  pub saving_whole : {zs : List ℤ} → six_checked e ≡ gives zs → saving c e room ≡ if_room room (written (record { column = c; effects = zs }))
  unfolding saving if_whole
  saving_whole h = rw h

  pub saving_refused : (r : Refused (Option Placed)) → told {A = List ℤ} (Err r) ≡ if_whole (six_checked e) (λ zs. gives zs) → saving c e room ≡ refused (number_of r.refusal) r.back
  unfolding saving if_whole told
  saving_refused r h = go (six_checked e) h
    where
      go : (t : Told Placed (List ℤ)) → refused (number_of r.refusal) r.back ≡ if_whole {A = List ℤ} t (λ zs. gives zs)
          → if_whole t (λ zs. if_room room (written (record { column = c; effects = zs }))) ≡ refused (number_of r.refusal) r.back
      go (gives zs) h = cc
      go (refused n x) h =
          let p : number_of r.refusal ≡ n = cc in
          let q : r.back ≡ Some x = cc in
          rw (p, q)

-- with room for the text, and without
pub with_room : (room : ℕ) (text : List ℕ) → leb (length text) room ≡ true → if_room room text ≡ gives text
unfolding if_room
with_room room text h = rw h

pub without_room : (room : ℕ) (text : List ℕ) → leb (length text) room ≡ false → if_room room text ≡ refused 12 None
unfolding if_room
without_room room text h = rw h

-- the same in numbers alone
pub written_is : (t : Told (Option Placed) (List ℕ)) {n : ℕ} → told {B = Option Placed} (Ok n) ≡ sized t
    → record { number = 0; place = 0; double = no_effect.double; length = n } ≡ saved_of t
unfolding told sized saved_of
written_is (gives text) {n} h = let q : n ≡ length text = cc in rw q
written_is (refused k p) {n} h = cc

pub refused_is : (t : Told (Option Placed) (List ℕ)) (r : Refused (Option Placed)) → told {A = ℕ} (Err r) ≡ sized t
    → let p = unwrap_or r.back no_effect in
    record { number = number_of r.refusal; place = p.load; double = p.double; length = 0 } ≡ saved_of t
unfolding told sized saved_of
refused_is (gives text) r h = cc
refused_is (refused k p) r h =
    let n : number_of r.refusal ≡ k = cc in
    let q : r.back ≡ p = cc in
    rw (n, q)
