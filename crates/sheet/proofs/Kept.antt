-- Reading keeps the limits: line by line, and so for a whole sheet.
-- Assumes nothing.
use Rattle.std.proofs.Common.{◌≡◌, refl, ◌∙◌, subst, Bool, true, false, cond, List, [], ◌∷◌, ℕ, ◌+◌, ◌≤◌, ◌<◌, arith, leb, ltb, eqb, ℤ, pos, length, get_or, length-set, leb-true, eqb-true, ne_eqb}
use Rattle.lists.proofs.Lists.{all_set, all_same, all_at}
use Rattle.column.specs.Column.{member_of, unopened, Reached}
use Rattle.column.proofs.Reach.{reached_opened, reached_entered}
use Rattle.newtons.specs.Effect.{magnitude_of, limit}
use Rattle.sheet_lines.specs.declared.Due.{Due}
use Rattle.sheet_lines.specs.declared.Due.TheVariants as D
use Rattle.sheet_lines.specs.declared.Form.{Form}
use Rattle.refusal.specs.Said.{Said, gives, refused}
use Rattle.std.specs.Prelude.{Option}
use Rattle.std.proofs.Math.Path.{subst⁻¹}
use Rattle.std.proofs.lemmas.Bool.{false≢true, eqb-false}
use Rattle.sheet_lines.specs.declared.Form.TheVariants as F
use Rattle.sheet_lines.specs.Form.{effect_count, said_form, line_said}
use Rattle.sheet_lines.specs.theorems.Says.{Says, member, floor, effect}
use Rattle.sheet_lines.proofs.SaysForm.{Read, says, malformed, form_read}
use Rattle.sheet.specs.declared.Sheet.{Sheet}
use Rattle.text.specs.Lines.{Lines, line, rest, split}
use Rattle.sheet.specs.declared.steps.Draft.{Draft}
use Rattle.sheet.specs.Sheet.{Reading, Taken, unread, is_complete, with_effect, if_taken, effect_number, valued, line_taken, reading, if_read, read_from, read_sheet}
use Rattle.sheet.specs.Keeps.{EffectsWithin, Keeps}
use Rattle.sheet.specs.inner.SoFar.{KeepsColumn, KeepsSoFar}

-- the draft keeps the limits
abbrev pub Kept : Draft → Type 0
Kept d = KeepsSoFar d.due d.sheet

-- where a line is taken the next draft is kept, else the one before
if_kept : (n : ℕ) (d next : Draft) → Kept d → (n ≡ 0 → Kept next) → Kept (if_taken n d next).draft
unfolding if_taken
if_kept n d next k f = go (eqb n 0) refl
  where
    go : (b : Bool) → eqb n 0 ≡ b → Kept (cond b next d)
    go true e = f (eqb-true n 0 e)
    go false e = k

-- an effect with the number 0 is within the limit, and so are the effects with it
effect_taken : (z : ℤ) → effect_number z ≡ 0 → magnitude_of z ≤ limit
unfolding effect_number
effect_taken z e = go (leb (magnitude_of z) limit) refl e
  where
    go : (b : Bool) → leb (magnitude_of z) limit ≡ b → ◌≡◌ {A = ℕ} (cond b 0 9) 0 → magnitude_of z ≤ limit
    go true h e = leb-true (magnitude_of z) limit h
    go false h e = absurd (omega arith)

-- an effect is within the limit
abbrev Within : ℤ → Type 0
Within z = magnitude_of z ≤ limit

-- the effect at each place is within the limit
pub each_within : {es : List ℤ} → EffectsWithin es → (k : ℕ) → magnitude_of (get_or es k (pos 0)) ≤ limit
each_within w k = all_at {P = Within} (pos 0) (omega arith) w.each k

-- what holds before a line that says this
unfoldable pub Ready : Draft → Said Form → Type 0
Ready d (gives (F.Member code)) = d.sheet.column ≡ unopened
Ready d (gives (F.Floor x)) = Reached d.sheet.column
Ready d (gives (F.Effect k z)) = (k < effect_count) × Reached d.sheet.column
Ready d (refused n _) = Unit {0}

pub line_ready : (d : Draft) (l : List ℕ) {t : Said Form} → line_said d.due l ≡ t → Kept d → Ready d t
unfolding Ready KeepsColumn said_form line_said
line_ready d l e k = subst (Ready d) e (go (form_read d.due l))
  where
    at : {due : Due} → d.due ≡ due → KeepsColumn due d.sheet.column
    at q = subst (λ (u : Due). KeepsColumn u d.sheet.column) q k.column

    ready : {f : Form} → Says d.due l f → Ready d (gives f)
    ready (member code q e t) = subst⁻¹ (λ (f : Form). Ready d (gives f)) e (at q)
    ready (floor x q e t) = subst⁻¹ (λ (f : Form). Ready d (gives f)) e (at q)
    ready (effect n z h q e t) = subst⁻¹ (λ (f : Form). Ready d (gives f)) e (h, at q)

    go : {o : Option Form} → Read d.due l o → Ready d (said_form o)
    go (malformed e) = subst⁻¹ (λ (o : Option Form). Ready d (said_form o)) e tt
    go (says f e s) = subst⁻¹ (λ (o : Option Form). Ready d (said_form o)) e (ready s)

valued_kept : (d : Draft) (t : Said Form) → Ready d t → Kept d → Kept (valued d t).draft
unfolding valued Ready KeepsColumn
valued_kept d (gives (F.Member code)) r k =
    if_kept _ d _ k λ z.
    record { column = reached_opened (member_of code) z; effects = k.effects }
valued_kept d (gives (F.Floor x)) r k = if_kept _ d _ k λ z. record { column = reached_entered x r; effects = k.effects }
valued_kept d (gives (F.Effect n z)) r k =
    if_kept (effect_number z) d (with_effect d n z) k λ h.
    record { column = r.1; effects = record { count = length-set d.sheet.effects n z ∙ k.effects.count; each = all_set {P = Within} n z (effect_taken z h) k.effects.each } }
valued_kept d (refused n _) r k = if_kept _ d d k (λ _. k)

-- a line leaves a draft that keeps the limits
pub line_kept : (d : Draft) (l : List ℕ) → Kept d → Kept (line_taken d l).draft
unfolding line_taken
line_kept d l k = valued_kept d (line_said d.due l) (line_ready d l refl k) k

-- a line that is refused leaves the draft as it was
if_same : (n : ℕ) (d next : Draft) → (n ≡ 0 → ⊥) → (if_taken n d next).draft ≡ d
unfolding if_taken
if_same n d next h = rw (ne_eqb n 0 h)

valued_same : (d : Draft) (t : Said Form) → ((valued d t).number ≡ 0 → ⊥) → (valued d t).draft ≡ d
unfolding valued if_taken
valued_same d (gives (F.Member code)) h = if_same _ d _ h
valued_same d (gives (F.Floor x)) h = if_same _ d _ h
valued_same d (gives (F.Effect k z)) h = if_same (effect_number z) d (with_effect d k z) h
valued_same d (refused n _) h = if_same _ d d h

pub line_refused : (d : Draft) (l : List ℕ) → ((line_taken d l).number ≡ 0 → ⊥) → (line_taken d l).draft ≡ d
unfolding line_taken
line_refused d l h = valued_same d (line_said d.due l) h

-- before the first line nothing is asked of the column, and no effect is beyond the limit
pub unread_kept : Kept unread
unfolding KeepsColumn
unread_kept = record { column = refl; effects = record { count = refl; each = all_same {P = Within} (pos 0) (omega arith) effect_count } }

whole_keeps : (due : Due) (s : Sheet) → is_complete due ≡ true → KeepsSoFar due s → Keeps s
unfolding is_complete KeepsColumn
whole_keeps D.Member s h k = absurd (false≢true h)
whole_keeps (D.Effect n) s h k = record { column = k.column; effects = k.effects }

-- where a line is refused the number is not 0, so what is read after it decides
if_keeps : (t : Taken) (k start end : ℕ) (d : Draft) (r : Reading) → (r.number ≡ 0 → Keeps r.sheet)
    → (if_read t k start end d r).number ≡ 0 → Keeps (if_read t k start end d r).sheet
unfolding if_read
if_keeps t k start end d r f e = go (eqb t.number 0) refl e
  where
    R : Bool → Reading
    R b = cond b r (reading t.number k start end d)

    go : (b : Bool) → eqb t.number 0 ≡ b → (R b).number ≡ 0 → Keeps (R b).sheet
    go true q e = f e
    go false q e = absurd (eqb-false t.number 0 q e)

from_keeps : (k at : ℕ) (d : Draft) (ls : Lines) → Kept d → (read_from k at d ls).number ≡ 0 → Keeps (read_from k at d ls).sheet
unfolding read_from
from_keeps k at d (rest []) h e = go (is_complete d.due) refl e
  where
    R : Bool → Reading
    R b = cond b (reading 0 k at at d) (reading 10 (k + 1) at at d)

    go : (b : Bool) → is_complete d.due ≡ b → (R b).number ≡ 0 → Keeps (R b).sheet
    go true q e = whole_keeps d.due d.sheet q h
    go false q e = absurd (omega arith)
from_keeps k at d (rest (b ∷ bs)) h e = absurd (omega arith)
from_keeps k at d (line l ls) h e = if_keeps (line_taken d l) _ _ _ d _ (from_keeps (k + 1) (at + length l + 1) (line_taken d l).draft ls (line_kept d l h)) e

-- a sheet that is read keeps the limits
pub read_keeps : (text : List ℕ) → (read_sheet text).number ≡ 0 → Keeps (read_sheet text).sheet
unfolding read_sheet
read_keeps text e = go (ltb 32768 (length text)) e
  where
    R : Bool → Reading
    R b = cond b (reading 11 0 0 0 unread) (read_from 0 0 unread (split text))

    go : (b : Bool) → (R b).number ≡ 0 → Keeps (R b).sheet
    go true e = absurd (omega arith)
    go false e = from_keeps 0 0 unread (split text) unread_kept e
