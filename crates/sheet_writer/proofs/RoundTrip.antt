-- What is written is read as it was, what is read is written back, and the room suffices.
-- Assumes nothing.
use Rattle.std.proofs.Common.{◌≡◌, refl, sym, ◌∙◌, ap, subst, Bool, true, false, cond, List, [], ◌∷◌, ◌++◌, ℕ, suc, ◌≤◌, ◌<◌, arith, leb, ℤ, pos, nat_abs, Float, length, take, drop, get_or, le-leb}
use Rattle.refusal.specs.Said.{Told, gives, refused}
use Rattle.lists.specs.Lists.{All, none, more}
use Rattle.text.specs.Put.{fronted}
use Rattle.text.proofs.Puts.{fronted_take, fronted_drop}
use Rattle.newtons.specs.Effect.{Value, whole, not_whole, magnitude_of, limit, value_of, limited, effect_of}
use Rattle.effects.specs.declared.LoadEffect.{LoadEffect}
use Rattle.effects.specs.Check.{if_given, checked_from}
use Rattle.effects.proofs.Checks.{all_kept, double_taken}
use Rattle.column.specs.declared.Column.{Column}
use Rattle.column.specs.Column.{Reached}
use Rattle.sheet.specs.declared.Sheet.{Sheet}
use Rattle.sheet.specs.Sheet.{Reading, read_sheet}
use Rattle.sheet.specs.Keeps.{EffectsWithin, Keeps}
use Rattle.sheet.proofs.Kept.{each_within, read_keeps}
use Rattle.sheet_text.specs.Written.{written}
use Rattle.sheet_text.specs.theorems.Exactly.{read_as}
use Rattle.sheet_text.proofs.Back.{exactly}
use Rattle.sheet_writer.specs.declared.SheetDoubles.{SheetDoubles}
use Rattle.std.specs.Prelude.{Option, None}
use Rattle.std.proofs.lemmas.Bool.{lt-leb}
use Rattle.std.specs.Float.Ieee.{binary64, of_int}
use Rattle.sheet_writer.specs.Saving.{Placed, six_listed, six_checked, if_whole, if_room, saving, saved_text, saved_of}
use Rattle.sheet_writer.specs.theorems.RoundTrip.{Returns, ReadBack, sheet_doubles_of, WrittenBack, AnySheet, EffectsTaken, TouchesNoMore, RoomSuffices}
use Rattle.sheet_writer.proofs.Checks.{with_room, without_room}
use Rattle.sheet_writer.proofs.Sizes.{written_most}
use Rattle.sheet_writer.proofs.Texts.{six_list}

-- ---- six effects that are taken, or the first that is refused

-- what is told is no refusal, or one with 8 or 9
unfoldable Early : {A B : Type 0} → Told A B → Type 0
Early (gives x) = Unit {0}
Early (refused n x) = (8 ≤ n) × (n ≤ 9)

effect_early : (x : Float) → Early (effect_of x)
unfolding effect_of limited Early
effect_early x = go (value_of x)
  where
    pass : (z : ℤ) (b : Bool) → Early {A = Float} {B = ℤ} (cond b (gives z) (refused 9 x))
    pass z true = tt
    pass z false = (omega arith, omega arith)

    go : (v : Value) → Early (limited x v)
    go not_whole = (omega arith, omega arith)
    go (whole z) = pass z (leb (magnitude_of z) limit)

checked_early : {L : Type 0} (taken : List ℤ) (es : List (LoadEffect L)) → Early (checked_from taken es)
unfolding checked_from if_given Early
checked_early taken [] = tt
checked_early taken (e ∷ es) = go (effect_of e.double) (effect_early e.double) (λ z. checked_early (taken ++ (z ∷ [])) es)
  where
    go : (t : Told Float ℤ) → Early t → ((z : ℤ) → Early (checked_from (taken ++ (z ∷ [])) es)) → Early (if_given e t (λ z. checked_from (taken ++ (z ∷ [])) es))
    go (gives z) h next = next z
    go (refused n x) h next = h

refused_early : (e : SheetDoubles) {n : ℕ} {x : Placed} → six_checked e ≡ refused n x → (8 ≤ n) × (n ≤ 9)
unfolding six_checked Early
refused_early e h = subst Early h (checked_early [] (six_listed e))

all_of : (zs : List ℤ) → ((k : ℕ) → nat_abs (get_or zs k (pos 0)) ≤ limit) → All (λ z. magnitude_of z ≤ limit) zs
all_of [] f = none
all_of (z ∷ zs) f = more (f 0) (all_of zs (λ k. f (suc k)))

pub six_kept : (e : SheetDoubles) {zs : List ℤ} → six_checked e ≡ gives zs → EffectsWithin zs
unfolding six_checked six_listed
six_kept e {zs} h =
    let s = all_kept [] (six_listed e) {xs = zs} (λ i. omega arith) h in
    record { count = omega (arith, s.count); each = all_of zs s.each }

-- ---- six whole numbers handed over as doubles

-- 02, CR 2: "six whole effects within limits"
pub six_taken : EffectsTaken
unfolding six_checked six_listed checked_from if_given sheet_doubles_of
six_taken zs w =
    let at : (k : ℕ) → effect_of (of_int binary64 (get_or zs k (pos 0))) ≡ gives (get_or zs k (pos 0)) = λ k. double_taken (get_or zs k (pos 0)) (each_within w k) in
    rw (at 0, at 1, at 2, at 3, at 4, at 5) (ap gives (six_list zs w.count))

-- where the effects are those of a sheet, its text is written, or there is no room for it
sheet_told : (s : Sheet) (e : SheetDoubles) (room : ℕ) → six_checked e ≡ gives s.effects → saving s.column e room ≡ if_room room (written s)
unfolding saving if_whole
sheet_told s e room h = rw h

-- ---- written and read again

-- the sheet of a column and six effects is one that keeps the limits
keeps_six : (c : Column) (e : SheetDoubles) (zs : List ℤ) → Reached c → six_checked e ≡ gives zs → Keeps (record { column = c; effects = zs })
keeps_six c e zs r h = record { column = r; effects = six_kept e h }

returns-text : (s : Sheet) (e : SheetDoubles) → Keeps s → six_checked e ≡ gives s.effects → Returns (read_sheet (written s)) s.column e
unfolding read_as
returns-text s e ok h =
    let q = exactly.back s ok in
    record {
      number = ap (λ (r : Reading). r.number) q;
      column = ap (λ (r : Reading). r.sheet.column) q;
      effects = h ∙ ap (λ (r : Reading). gives r.sheet.effects) (sym q);
    }

-- 02, CR 2: "Reading it must return the same column and effects"
pub read_back : ReadBack
unfolding saving if_whole saved_of saved_text
read_back c e buffer r = go (six_checked e) refl
  where
    fit : (zs : List ℤ) → six_checked e ≡ gives zs → (b : Bool) → leb (length (written (record { column = c; effects = zs }))) (length buffer) ≡ b
        → let told = if_room (length buffer) (written (record { column = c; effects = zs })) in
        (saved_of told).number ≡ 0 → Returns (read_sheet (take (saved_of told).length (fronted (saved_text told) buffer))) c e
    fit zs q true p h =
        let s : Sheet = record { column = c; effects = zs } in
        rw (with_room (length buffer) (written s) p, fronted_take (written s) buffer) (returns-text s e (keeps_six c e zs r q) q)
    fit zs q false p h = absurd (omega (arith, ap (λ (t : Told (Option Placed) (List ℕ)). (saved_of t).number) (without_room (length buffer) (written (record { column = c; effects = zs })) p), h))

    go : (t : Told Placed (List ℤ)) → six_checked e ≡ t
        → let told = if_whole t (λ zs. if_room (length buffer) (written (record { column = c; effects = zs }))) in
        (saved_of told).number ≡ 0 → Returns (read_sheet (take (saved_of told).length (fronted (saved_text told) buffer))) c e
    go (gives zs) q h = fit zs q (leb (length (written (record { column = c; effects = zs }))) (length buffer)) refl h
    go (refused n x) q h = absurd (omega (arith, refused_early e q, h))

-- ---- read and written again

-- 02, CR 2: "Every sheet that reads well is written back byte for byte"
pub written_back : WrittenBack
unfolding saved_of saved_text
written_back text buffer e room =
    let s = (read_sheet text).sheet in
    let q : text ≡ written s = exactly.only text e in
    let fits : leb (length (written s)) (length buffer) ≡ true = le-leb (length (written s)) (length buffer) (omega (arith, room, ap length q)) in
    let told : saving s.column (sheet_doubles_of s.effects) (length buffer) ≡ gives text =
    sheet_told s (sheet_doubles_of s.effects) (length buffer) (six_taken s.effects (read_keeps text e).effects) ∙ (with_room (length buffer) (written s) fits ∙ ap gives (sym q)) in
    (ap saved_of told, ap (λ (t : Told (Option Placed) (List ℕ)). fronted (saved_text t) buffer) told)

-- 02, CR 2: "any column and six whole effects within limits"
pub any_sheet : AnySheet
unfolding saved_of saved_text fronted
any_sheet s e buffer h =
    record {
      whole = λ room. let told = written_told room in (ap saved_of told, ap after told);
      short = λ lack. let told = short_told lack in (ap (λ (t : Told (Option Placed) (List ℕ)). (saved_of t).number) told, ap after told);
    }
  where
    after : Told (Option Placed) (List ℕ) → List ℕ
    after t = fronted (saved_text t) buffer

    written_told : length (written s) ≤ length buffer → saving s.column e (length buffer) ≡ gives (written s)
    written_told room = sheet_told s e (length buffer) h ∙ with_room (length buffer) (written s) (le-leb (length (written s)) (length buffer) room)

    short_told : length buffer < length (written s) → saving s.column e (length buffer) ≡ refused 12 None
    short_told lack = sheet_told s e (length buffer) h ∙ without_room (length buffer) (written s) (lt-leb (length (written s)) (length buffer) lack)

-- ---- what is touched, and the room

-- 02, CR 2: "Bytes past the end of the text stay untouched, and a refusal touches none"
pub touches_no_more : TouchesNoMore
unfolding saved_of saved_text fronted
touches_no_more c e buffer = record { past = past (saving c e (length buffer)); refusal = refusal (saving c e (length buffer)) }
  where
    past : (t : Told (Option Placed) (List ℕ)) → drop (saved_of t).length (fronted (saved_text t) buffer) ≡ drop (saved_of t).length buffer
    past (gives text) = fronted_drop text buffer
    past (refused n x) = refl

    refusal : (t : Told (Option Placed) (List ℕ)) → ((saved_of t).number ≡ 0 → ⊥) → fronted (saved_text t) buffer ≡ buffer
    refusal (gives text) h = absurd (h refl)
    refusal (refused n x) h = refl

-- the room that always suffices
pub room_suffices : RoomSuffices
unfolding saving if_whole saved_of
room_suffices = record { longest = written_most; never_short = λ c e buffer r size. go c e buffer r size (six_checked e) refl }
  where
    go : (c : Column) (e : SheetDoubles) (buffer : List ℕ) → Reached c → 12288 ≤ length buffer → (t : Told Placed (List ℤ)) → six_checked e ≡ t
        → (saved_of (if_whole t (λ zs. if_room (length buffer) (written (record { column = c; effects = zs }))))).number ≡ 12 → ⊥
    go c e buffer r size (gives zs) q h =
        let s : Sheet = record { column = c; effects = zs } in
        let fits = le-leb (length (written s)) (length buffer) (omega (arith, size, written_most s (keeps_six c e zs r q))) in
        omega (arith, h, ap (λ (t : Told (Option Placed) (List ℕ)). (saved_of t).number) (with_room (length buffer) (written s) fits))
    go c e buffer r size (refused n x) q h = omega (arith, refused_early e q, h)
