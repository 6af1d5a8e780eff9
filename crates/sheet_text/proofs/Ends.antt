-- Reading a text ends with the sheet that it says, or stops at the first fault.
-- Assumes nothing.
use Rattle.std.proofs.Common.{◌≡◌, refl, sym, ◌∙◌, ap, Bool, true, false, cond, List, [], ◌∷◌, ◌++◌, append-nil, append_assoc, ℕ, ◌+◌, ◌≤◌, ◌<◌, arith, eqb, ltb, length, take, drop, length-append, take_at, drop_at, take_all, eqb-true, leb-true, lt-ltb, le-ltb, ltb-true, ltb-false}
use Rattle.std.proofs.Math.Path.{subst⁻¹}
use Rattle.std.proofs.lemmas.Bool.{false≢true, eqb-false}
use Rattle.sheet_lines.specs.declared.Due.{Due}
use Rattle.sheet_lines.specs.declared.Due.TheVariants as D
use Rattle.sheet_lines.specs.Form.{effect_keys, effect_count}
use Rattle.sheet.specs.declared.Sheet.{Sheet}
use Rattle.text.specs.Lines.{newline, Lines, line, rest, split, ended, text_of}
use Rattle.sheet.specs.declared.steps.Draft.{Draft}
use Rattle.sheet.specs.Sheet.{Reading, Taken, unread, is_complete, line_taken, reading, if_read, read_from, read_sheet}
use Rattle.sheet.specs.inner.SoFar.{KeepsSoFar}
use Rattle.sheet.proofs.Kept.{Kept, unread_kept, line_kept, read_keeps}
use Rattle.sheet_text.specs.Written.{effect_lines}
use Rattle.sheet_text.specs.theorems.Saying.{lines_with, SayBefore, Say}
use Rattle.sheet_text.specs.theorems.Exactly.{ReadIsSaid, Fault, missing, unended, refused, StopsAtFault, RefusedAtFirst}
use Rattle.text.proofs.Lines.{Clean, clean_line, clean_rest, clean_split, bytes, bytes_split, text_more}
use Rattle.sheet_text.proofs.SaidSoFar.{lines_length, line_adds}

-- how a reading ends
data Ending (text : List ℕ) (r : Reading) : Type 0 where
  whole : r.number ≡ 0 → (ls : List (List ℕ)) → text ≡ text_of ls → Say r.sheet ls → Ending text r
  stops : (r.number ≡ 0 → ⊥) → StopsAtFault text r → Ending text r

-- reading has come to a place of the text: the lines before it say the draft, and this stands from it on
record Come (text : List ℕ) (k at : ℕ) (d : Draft) (left : List ℕ) : Type 0 where
  kept : Kept d
  lines : List (List ℕ)
  say : SayBefore d.due d.sheet lines
  parts : text ≡ text_of lines ++ left
  start : length (text_of lines) ≡ at
  count : length lines ≡ k

-- there it stops at a fault
stop : {text : List ℕ} {k at : ℕ} {d : Draft} {left : List ℕ} → Come text k at d left → (n end : ℕ) → (n ≡ 0 → ⊥)
    → Fault d left (reading n (k + 1) at end d) → Ending text (reading n (k + 1) at end d)
stop {text} {k} {at} {d} {left} c n end h f =
    let b = text_of c.lines in
    let a : drop at text ≡ left = ap (drop at) c.parts ∙ drop_at b left at c.start in
    stops h
    (record {
      due = d.due;
      kept = c.kept;
      lines = c.lines;
      say = c.say;
      inside = omega (arith, ap length c.parts, length-append b left, c.start);
      before = ap (take at) c.parts ∙ take_at b left at c.start;
      line = omega (arith, c.count);
      fault = subst⁻¹ (λ (x : List ℕ). Fault d x (reading n (k + 1) at end d)) a f;
    })

-- or passes a line that is taken
pass : {text : List ℕ} {k at : ℕ} {d : Draft} (l left : List ℕ) → Come text k at d (ended l ++ left) → (line_taken d l).number ≡ 0
    → Come text (k + 1) (at + length l + 1) (line_taken d l).draft left
pass {d = d} l left c e =
    let b = text_of c.lines in
    let a = text_more c.lines l in
    record {
      kept = line_kept d l c.kept;
      lines = c.lines ++ (l ∷ []);
      say = line_adds d l c.kept c.lines c.say e;
      parts = c.parts ∙ (sym (append_assoc b (ended l) left) ∙ ap (λ (x : List ℕ). x ++ left) (sym a));
      start = ap length a ∙ (length-append b (ended l) ∙ omega (arith, c.start, length-append l (newline ∷ [])));
      count = omega (arith, c.count, length-append c.lines (l ∷ []));
    }

-- where all lines are read, the whole sheet is said
all_said : (due : Due) (s : Sheet) (ls : List (List ℕ)) → is_complete due ≡ true → KeepsSoFar due s → SayBefore due s ls → Say s ls
unfolding is_complete SayBefore lines_with effect_keys
all_said D.Member s ls h k b = absurd (false≢true h)
all_said (D.Effect n) s ls h k b =
    let es = effect_lines effect_keys s.effects in
    let six : length es ≡ effect_count = lines_length effect_keys s.effects k.effects.count in
    let most : effect_count ≤ n = leb-true effect_count n h in
    record { floors = b.floors; say = b.say; all = rw (take_all effect_count es (omega arith)) (rw (take_all n es (omega arith)) at b.all) }

ends_from : (text : List ℕ) (ls : Lines) (k at : ℕ) (d : Draft) → Clean ls → Come text k at d (bytes ls) → Ending text (read_from k at d ls)
unfolding read_from if_read bytes
ends_from text (rest []) k at d h c = go (is_complete d.due) refl
  where
    go : (b : Bool) → is_complete d.due ≡ b → Ending text (cond b (reading 0 k at at d) (reading 10 (k + 1) at at d))
    go true e = whole refl c.lines (c.parts ∙ append-nil (text_of c.lines)) (all_said d.due d.sheet c.lines e c.kept c.say)
    go false e = stop c 10 at (λ q. omega arith) (missing refl e refl refl)
ends_from text (rest (b ∷ bs)) k at d (clean_rest h) c =
    stop c 10 (at + length (b ∷ bs)) (λ q. omega arith) (unended (λ q. omega (arith, ap length q)) h refl refl)
ends_from text (line l ls) k at d (clean_line h hs) c =
    go (eqb t.number 0) refl (λ e. ends_from text ls (k + 1) (at + length l + 1) t.draft hs (pass l (bytes ls) c e))
  where
    t : Taken
    t = line_taken d l

    r : Reading
    r = read_from (k + 1) (at + length l + 1) t.draft ls

    go : (b : Bool) → eqb t.number 0 ≡ b → (t.number ≡ 0 → Ending text r)
        → Ending text (cond b r (reading t.number (k + 1) at (at + length l) d))
    go true e f = f (eqb-true t.number 0 e)
    go false e f = stop c t.number (at + length l) (eqb-false t.number 0 e) (refused l (bytes ls) refl h refl refl)

-- reading a text that is not too long ends so
ends : (text : List ℕ) → length text ≤ 32768 → Ending text (read_sheet text)
unfolding read_sheet SayBefore text_of
ends text h =
    rw (le-ltb 32768 (length text) h)
    (ends_from text (split text) 0 0 unread (clean_split text)
    (record { kept = unread_kept; lines = []; say = refl; parts = sym (bytes_split text); start = refl; count = refl }))

-- a text that is too long is refused by its length
too_long : (text : List ℕ) → 32768 < length text → read_sheet text ≡ reading 11 0 0 0 unread
unfolding read_sheet
too_long text h = rw (lt-ltb 32768 (length text) h)

-- 01, Numbers by the place of checking: each refusal is that of the first fault
pub refused_at_first : RefusedAtFirst
refused_at_first = record { stops = λ text h e. go text e (ends text h); long = too_long }
  where
    go : (text : List ℕ) → ((read_sheet text).number ≡ 0 → ⊥) → Ending text (read_sheet text) → StopsAtFault text (read_sheet text)
    go text e (whole h ls q s) = absurd (e h)
    go text e (stops h s) = s

-- Demand 2: a text that is read says the sheet that was read, which keeps the limits
pub read_is_said : (text : List ℕ) → (read_sheet text).number ≡ 0 → ReadIsSaid text
read_is_said text e = go (ltb 32768 (length text)) refl
  where
    shown : Ending text (read_sheet text) → ReadIsSaid text
    shown (whole h ls q s) = record { lines = ls; is = q; say = s; keeps = read_keeps text e }
    shown (stops h s) = absurd (h e)

    go : (b : Bool) → ltb 32768 (length text) ≡ b → ReadIsSaid text
    go true q = absurd (omega (arith, e, ap (λ (r : Reading). r.number) (too_long text (ltb-true 32768 (length text) q))))
    go false q = shown (ends text (ltb-false 32768 (length text) q))
