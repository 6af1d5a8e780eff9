-- One line: where it is taken, the lines so far and the line say the sheet then.
-- Assumes nothing.
use Rattle.std.proofs.Common.{◌≡◌, refl, ap, subst, List, [], ◌∷◌, ◌++◌, append-nil, append_assoc, ℕ, zero, suc, ◌+◌, ◌<◌, arith, add-one, ℤ, length, take, set, take-suc-set}
use Rattle.column.specs.declared.Line.{Line}
use Rattle.column.specs.declared.Column.{Column}
use Rattle.lists.specs.Lists.{none}
use Rattle.column.specs.Accepted.{last_floor, entry_number}
use Rattle.column.specs.Column.{lines_of, column_of, member_of, entered_of}
use Rattle.column.proofs.Columns.{column_lines, more_lines}
use Rattle.column.proofs.Reach.{no_condition, opened_column}
use Rattle.sheet_lines.specs.declared.Due.{Due}
use Rattle.std.specs.Prelude.{Option}
use Rattle.std.proofs.Math.Path.{subst⁻¹}
use Rattle.refusal.specs.Said.{gives}
use Rattle.sheet_lines.specs.declared.Form.{Form}
use Rattle.refusal.specs.Refusal.{number_of}
use Rattle.sheet_lines.specs.Form.{effect_keys, said_form, line_said}
use Rattle.sheet_lines.specs.LineText.{effect_text}
use Rattle.sheet_lines.specs.theorems.Says.{SaysFloor, Says, member, floor, effect, key_at}
use Rattle.sheet_lines.proofs.SaysForm.{Read, says, malformed, form_read}
use Rattle.sheet.specs.declared.steps.Draft.{Draft}
use Rattle.sheet.specs.Sheet.{if_taken, valued, line_taken}
use Rattle.sheet.proofs.Kept.{Kept}
use Rattle.sheet_text.specs.Written.{effect_lines}
use Rattle.sheet_text.specs.theorems.Saying.{lines_with, SayFloors, no_line, and_line, SayWith, SayBefore}

-- one floor line more is said
say_more : {fs : List (List ℕ)} {xs : List Line} {l : List ℕ} {x : Line} → SayFloors fs xs → SaysFloor l x → SayFloors (fs ++ (l ∷ [])) (xs ++ (x ∷ []))
say_more no_line h = and_line h no_line
say_more (and_line q s) h = and_line q (say_more s h)

-- each effect has its line
pub lines_length : (keys : List (List ℕ)) (zs : List ℤ) → length zs ≡ length keys → length (effect_lines keys zs) ≡ length keys
unfolding effect_lines
lines_length [] zs h = refl
lines_length (key ∷ keys) [] h = absurd (omega arith)
lines_length (key ∷ keys) (z ∷ zs) h = ap suc (lines_length keys zs (omega arith))

-- the effect at a place, and its line
lines_set : (keys : List (List ℕ)) (zs : List ℤ) (k : ℕ) (z : ℤ) → effect_lines keys (set zs k z) ≡ set (effect_lines keys zs) k (effect_text (key_at keys k) z)
unfolding effect_lines
lines_set [] zs k z = refl
lines_set (key ∷ keys) [] k z = refl
lines_set (key ∷ keys) (y ∷ zs) zero z = refl
lines_set (key ∷ keys) (y ∷ zs) (suc k) z = ap (λ (ls : List (List ℕ)). effect_text key y ∷ ls) (lines_set keys zs k z)

-- one line more among the floor lines, and behind the effects
floors_grow : (m l : List ℕ) (fs : List (List ℕ)) {ls : List (List ℕ)} → ls ≡ m ∷ (fs ++ []) → ls ++ (l ∷ []) ≡ m ∷ ((fs ++ (l ∷ [])) ++ [])
floors_grow m l fs e = rw (e, append-nil fs, append-nil (fs ++ (l ∷ [])))

effects_grow : (m l : List ℕ) (fs es : List (List ℕ)) {next ls : List (List ℕ)} → ls ≡ m ∷ (fs ++ es) → next ≡ es ++ (l ∷ []) → ls ++ (l ∷ []) ≡ m ∷ (fs ++ next)
effects_grow m l fs es e n = rw (e, n) (ap (λ (x : List (List ℕ)). m ∷ x) (append_assoc fs es (l ∷ [])))

-- the lines of the effects up to a place and with that at it
pub lines_next : (keys : List (List ℕ)) (zs : List ℤ) (k : ℕ) (z : ℤ) (l : List ℕ) → length zs ≡ length keys → k < length keys → l ≡ effect_text (key_at keys k) z
    → take (k + 1) (effect_lines keys (set zs k z)) ≡ take k (effect_lines keys zs) ++ (l ∷ [])
lines_next keys zs k z l h q e = rw (e, add-one, lines_set keys zs k z) (take-suc-set (effect_lines keys zs) k (effect_text (key_at keys k) z) (omega (arith, lines_length keys zs h)))

module _ (d : Draft) (l : List ℕ) (kept : Kept d) (ls : List (List ℕ)) (so_far : SayBefore d.due d.sheet ls) where
  -- with the line, this is said
  abbrev Adds : Draft → Type 0
  Adds next = SayBefore next.due next.sheet (ls ++ (l ∷ []))

  before : {due : Due} → d.due ≡ due → SayBefore due d.sheet ls
  before q = subst (λ (u : Due). SayBefore u d.sheet ls) q so_far

  if_adds : (n : ℕ) (next : Draft) → (n ≡ 0 → Adds next) → (if_taken n d next).number ≡ 0 → Adds (if_taken n d next).draft
  unfolding if_taken
  if_adds n next f h = rw h (f h)

  adds_said : {f : Form} → Says d.due l f → (valued d (gives f)).number ≡ 0 → Adds (valued d (gives f)).draft
  unfolding valued SayBefore lines_with column_of entered_of entry_number effect_keys
  adds_said (member code q e t) =
      let m = member_of code in
      subst⁻¹ (λ (f : Form). (valued d (gives f)).number ≡ 0 → Adds (valued d (gives f)).draft) e
      (if_adds _ _ λ h.
      subst⁻¹ (λ (c : Column). SayWith 0 (record { column = c; effects = d.sheet.effects }) (ls ++ (l ∷ []))) (opened_column m h)
      (record { floors = []; say = rw (column_lines m [] none) no_line; all = rw (before q, t) }))
  adds_said (floor x q e t) =
      let c = d.sheet.column in
      let b : SayWith 0 d.sheet ls = before q in
      subst⁻¹ (λ (f : Form). (valued d (gives f)).number ≡ 0 → Adds (valued d (gives f)).draft) e
      (if_adds _ _ λ h.
      rw h
      (record {
        floors = b.floors ++ (l ∷ []);
        say = rw (more_lines c.member c x (no_condition c.member (length (lines_of c)) (last_floor (lines_of c)) x h).1) (say_more b.say t);
        all = floors_grow _ l b.floors b.all;
      }))
  adds_said (effect k z n q e t) =
      let es = d.sheet.effects in
      let b : SayWith k d.sheet ls = before q in
      subst⁻¹ (λ (f : Form). (valued d (gives f)).number ≡ 0 → Adds (valued d (gives f)).draft) e
      (if_adds _ _ λ h.
      record {
        floors = b.floors;
        say = b.say;
        all = effects_grow _ l b.floors _ b.all (lines_next effect_keys es k z l kept.effects.count n t);
      })

  adds : {o : Option Form} → Read d.due l o → (valued d (said_form o)).number ≡ 0 → Adds (valued d (said_form o)).draft
  unfolding valued said_form number_of
  adds (malformed e) = subst⁻¹ (λ (o : Option Form). (valued d (said_form o)).number ≡ 0 → Adds (valued d (said_form o)).draft) e (if_adds 10 d (λ h. absurd (omega arith)))
  adds (says f e s) = subst⁻¹ (λ (o : Option Form). (valued d (said_form o)).number ≡ 0 → Adds (valued d (said_form o)).draft) e (adds_said s)

-- a line that is taken is one more line
pub line_adds : (d : Draft) (l : List ℕ) → Kept d → (ls : List (List ℕ)) → SayBefore d.due d.sheet ls → (line_taken d l).number ≡ 0
    → SayBefore (line_taken d l).draft.due (line_taken d l).draft.sheet (ls ++ (l ∷ []))
unfolding line_taken line_said
line_adds d l k ls s = adds d l k ls s (form_read d.due l)
