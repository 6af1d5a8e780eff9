-- Lines that say a sheet that keeps the limits are read as that sheet: each is taken in turn.
-- Assumes nothing.
use Rattle.std.proofs.Common.{◌≡◌, refl, sym, ◌∙◌, ap, true, List, [], ◌∷◌, ◌++◌, append-nil, append_assoc, map, ℕ, zero, suc, ◌+◌, ◌*◌, ◌≤◌, ◌<◌, arith, add-one, ℤ, pos, length, take, drop, set, get_or, replicate, length-append, length-drop, take_all, length-take-le, le-leb, le-ltb}
use Rattle.std.proofs.Math.Path.{subst⁻¹}
use Rattle.member.specs.Between.{between}
use Rattle.member.proofs.Tests.{limits}
use Rattle.lists.specs.Lists.{none as nil, more as and}
use Rattle.column.specs.declared.Line.{Line}
use Rattle.column.specs.declared.Member.{Member}
use Rattle.column.specs.declared.Column.{Column}
use Rattle.column.specs.Accepted.{last_floor, entry_number}
use Rattle.column.specs.Column.{lines_of, column_of, opened_of, entered_of}
use Rattle.column.proofs.Lines.{lines_length as held-length}
use Rattle.column.proofs.Columns.{column_lines}
use Rattle.column.specs.theorems.InTurn.{Holdable, AcceptedInTurn, none, more}
use Rattle.column.proofs.Reach.{no_condition, reached_is, sound}
use Rattle.column.proofs.InTurn.{reached_in_turn, in_turn_holdable}
use Rattle.newtons.specs.Effect.{magnitude_of, limit}
use Rattle.sheet_lines.specs.declared.Due.TheVariants as D
use Rattle.refusal.specs.Said.{gives}
use Rattle.sheet_lines.specs.declared.Form.{Form}
use Rattle.sheet_lines.specs.declared.Form.TheVariants as F
use Rattle.sheet_lines.specs.Form.{effect_keys, effect_count, said_form, line_said}
use Rattle.sheet_lines.specs.LineText.{line_numbers, member_text, floor_text, effect_text}
use Rattle.sheet_lines.specs.theorems.Says.{key_at, as_written, Says, member, floor, effect}
use Rattle.sheet_lines.proofs.SaysForm.{ShortForm, says_form}
use Rattle.sheet.specs.declared.Sheet.{Sheet}
use Rattle.text.specs.Lines.{newline, line, split, ended, text_of}
use Rattle.sheet.specs.declared.steps.Draft.{Draft}
use Rattle.sheet.specs.Sheet.{unread, is_complete, with_column, if_taken, effect_number, valued, line_taken, if_read, read_from, read_sheet}
use Rattle.sheet.specs.Keeps.{Keeps}
use Rattle.sheet.proofs.Kept.{each_within}
use Rattle.sheet_text.specs.Written.{effect_lines, lines_in, written}
use Rattle.sheet_text.specs.theorems.Saying.{lines_with, SayFloors, no_line, and_line}
use Rattle.sheet_text.specs.theorems.Exactly.{read_as, Exactly}
use Rattle.sheet_text.proofs.Sizes.{says_clean, says_length}
use Rattle.text.proofs.Lines.{split_line, text_more}
use Rattle.sheet_text.proofs.SaidSoFar.{lines_length, lines_next}
use Rattle.sheet_text.proofs.Ends.{read_is_said}

-- after these lines, which are not long, reading has come to this draft, whatever is left of the text
record ReadsTo (ls : List (List ℕ)) (d : Draft) : Type 0 where
  reads : (left : List ℕ) → read_from 0 0 unread (split (text_of ls ++ left)) ≡ read_from (length ls) (length (text_of ls)) d (split left)
  short : length (text_of ls) ≤ length ls * 78

-- so it has after one line more, which says what is taken
reads_more : {ls : List (List ℕ)} {d : Draft} (next : Draft) (l : List ℕ) (f : Form) → Says d.due l f → ShortForm f → valued d (gives f) ≡ record { number = 0; draft = next }
    → ReadsTo ls d → ReadsTo (ls ++ (l ∷ [])) next
unfolding read_from if_read line_taken line_said said_form
reads_more {ls} {d} next l f s h v c =
    let b = text_of ls in
    let more = text_more ls l in
    let size : length (text_of (ls ++ (l ∷ []))) ≡ length b + length l + 1 = ap length more ∙ omega (arith, length-append b (ended l), length-append l (newline ∷ [])) in
    let count : length (ls ++ (l ∷ [])) ≡ length ls + 1 = length-append ls (l ∷ []) in
    record {
      reads =
          λ left.
          let passed : read_from (length ls) (length b) d (line l (split left)) ≡ read_from (length ls + 1) (length b + length l + 1) next (split left) = rw (says_form s h, v) in
          ap (λ (x : List ℕ). read_from 0 0 unread (split x)) (ap (λ (x : List ℕ). x ++ left) more ∙ append_assoc b (ended l) left)
          ∙ (c.reads (ended l ++ left) ∙ (ap (read_from (length ls) (length b) d) (split_line l left (says_clean s)) ∙ (passed ∙ rw (size, count))));
      short = omega (arith, c.short, says_length s h);
    }

-- a sheet with these lines and, so far, no effects
abbrev lined : Column → Draft
lined c = with_column unread c

-- lines that say some floor lines and then others
record Parts (fs : List (List ℕ)) (xs ys : List Line) : Type 0 where
  first : List (List ℕ)
  then : List (List ℕ)
  both : fs ≡ first ++ then
  say_first : SayFloors first xs
  say_then : SayFloors then ys

parts : (xs : List Line) {ys : List Line} {fs : List (List ℕ)} → SayFloors fs (xs ++ ys) → Parts fs xs ys
parts [] s = record { first = []; then = _; both = refl; say_first = no_line; say_then = s }
parts (x ∷ xs) (and_line {l} h s) =
    let p = parts xs s in
    record { first = l ∷ p.first; then = p.then; both = ap (λ (k : List (List ℕ)). l ∷ k) p.both; say_first = and_line h p.say_first; say_then = p.say_then }

-- the numbers of a line that is accepted are short
short_line : (m : Member) (ls : List Line) (x : Line) → entry_number m ls x ≡ 0 → ShortForm (F.Floor x)
unfolding ShortForm line_numbers entry_number
short_line m ls x e =
    let ok = (no_condition m (length ls) (last_floor ls) x e).1 in
    and {x = x.floor} (omega arith) (and {x = x.class} (omega arith) (and {x = x.load} (omega arith) (and {x = x.area.0} (omega arith) nil)))

-- one floor line more is read
reads_floor : (m : Member) (xs : List Line) (x : Line) → Holdable xs → entry_number m xs x ≡ 0 → {fs gs hs : List (List ℕ)} → fs ≡ gs ++ hs → SayFloors hs (x ∷ [])
    → ReadsTo (member_text m.code ∷ gs) (lined (column_of m xs)) → ReadsTo (member_text m.code ∷ fs) (lined (column_of m (xs ++ (x ∷ []))))
unfolding valued if_taken entered_of column_of
reads_floor m xs x held e q (and_line {l} t no_line) c =
    subst⁻¹ (λ (k : List (List ℕ)). ReadsTo (member_text m.code ∷ k) (lined (column_of m (xs ++ (x ∷ []))))) q
    (reads_more (lined (column_of m (xs ++ (x ∷ [])))) l (F.Floor x) (floor x refl refl t) (short_line m xs x e) (rw (column_lines m xs held.lines, e)) c)

-- the lines before dead are read
reads_lines : {m : Member} {xs : List Line} → between 1 12 m.code ≡ true → AcceptedInTurn m xs → {fs : List (List ℕ)} → SayFloors fs xs
    → ReadsTo (member_text m.code ∷ fs) (lined (column_of m xs))
unfolding valued if_taken opened_of text_of ShortForm
reads_lines {m} h none no_line =
    let start : ReadsTo [] unread = record { reads = λ left. refl; short = omega arith } in
    reads_more (lined (column_of m [])) (member_text m.code) (F.Member m.code) (member m.code refl refl refl) (omega (arith, limits 1 12 m.code h)) (rw h) start
reads_lines {m} h (more xs x a e) s = let p = parts xs s in reads_floor m xs x (in_turn_holdable a) e p.both p.say_then (reads_lines h a p.say_first)

-- the effects up to a place, and those that were there before from it on; with one more
filled : (es zs : List ℤ) (k : ℕ) → length es ≡ length zs → k < length es → set (take k es ++ drop k zs) k (get_or es k (pos 0)) ≡ take (suc k) es ++ drop (suc k) zs
filled [] zs k e h = absurd (omega arith)
filled (x ∷ es) [] k e h = absurd (omega arith)
filled (x ∷ es) (z ∷ zs) zero e h = refl
filled (x ∷ es) (z ∷ zs) (suc k) e h = ap (λ (l : List ℤ). x ∷ l) (filled es zs k (omega arith) (omega arith))

module _ (s : Sheet) (ok : Keeps s) (fs : List (List ℕ)) (say : SayFloors fs (lines_of s.column)) where
  -- the sheet with the effects before a place
  abbrev up_to : ℕ → Draft
  up_to k = record { due = D.Effect k; sheet = record { column = s.column; effects = take k s.effects ++ drop k (replicate effect_count (pos 0)) } }

  reads_before : ReadsTo (member_text s.column.member.code ∷ fs) (lined s.column)
  reads_before =
      let r = ok.column in
      rw (sym (reached_is r)) at (reads_lines (sound r).code (reached_in_turn r) say)

  reads_effects : (k : ℕ) → k ≤ effect_count → ReadsTo (lines_with fs k (up_to k).sheet) (up_to k)
  unfolding lines_with effect_keys valued if_taken effect_number ShortForm
  reads_effects zero h = rw (append-nil fs) reads_before
  reads_effects (suc k) h =
      let es = s.effects in
      let so_far = (up_to k).sheet.effects in
      let z = get_or es k (pos 0) in
      let l = effect_text (key_at effect_keys k) z in
      let within : magnitude_of z ≤ limit = each_within ok.effects k in
      let next : set so_far k z ≡ (up_to (suc k)).sheet.effects = filled es (replicate effect_count (pos 0)) k ok.effects.count (omega (arith, ok.effects.count)) in
      let taken : valued (up_to k) (gives (F.Effect k z)) ≡ record { number = 0; draft = up_to (suc k) } = rw (le-leb (magnitude_of z) limit within, add-one k, next) in
      let six : length so_far ≡ effect_count = length-append (take k es) (drop k (replicate effect_count (pos 0))) ∙ omega (arith, length-take-le k es (omega (arith, ok.effects.count)), length-drop k (replicate effect_count (pos 0))) in
      let lines = rw (add-one k, next) at (lines_next effect_keys so_far k z l six h refl) in
      rw (lines, ← append_assoc fs (take k (effect_lines effect_keys so_far)) (l ∷ []))
      (reads_more (up_to (suc k)) l (F.Effect k z) (effect k z h refl refl refl) (omega arith) taken (reads_effects k (omega arith)))

-- a line each
say_length : {fs : List (List ℕ)} {xs : List Line} → SayFloors fs xs → length fs ≡ length xs
say_length no_line = refl
say_length (and_line h s) = ap suc (say_length s)

-- a member line, the floor lines and the effects
with_length : (s : Sheet) → Keeps s → (fs : List (List ℕ)) → length (lines_with fs effect_count s) ≡ length fs + effect_count + 1
unfolding lines_with effect_keys
with_length s ok fs =
    let es = effect_lines effect_keys s.effects in
    let six = lines_length effect_keys s.effects ok.effects.count in
    rw (take_all effect_count es (omega arith)) (omega (arith, length-append fs es))

-- all lines are read, and are not too long
reads_whole : (s : Sheet) → Keeps s → (fs : List (List ℕ)) → SayFloors fs (lines_of s.column) → read_sheet (text_of (lines_with fs effect_count s)) ≡ read_as s (lines_with fs effect_count s)
unfolding read_sheet read_from split is_complete read_as
reads_whole s ok fs say =
    let ls = lines_with fs effect_count s in
    let q = sound ok.column in
    let few : length fs ≤ 256 = omega (arith, say_length say, held-length s.column (omega arith)) in
    let c : ReadsTo ls (record { due = D.Effect effect_count; sheet = s }) =
    rw (take_all effect_count s.effects (omega (arith, ok.effects.count)), append-nil s.effects) at (reads_effects s ok fs say effect_count (omega arith)) in
    rw (le-ltb 32768 (length (text_of ls)) (omega (arith, c.short, with_length s ok fs)))
    (ap (λ (x : List ℕ). read_from 0 0 unread (split x)) (sym (append-nil (text_of ls))) ∙ c.reads [])

-- the lines that are written say the sheet, and no others do
floors_said : (xs : List Line) → SayFloors (map floor_text xs) xs
floors_said [] = no_line
floors_said (x ∷ xs) = and_line (as_written refl) (floors_said xs)

floors_only : {fs : List (List ℕ)} {xs : List Line} → SayFloors fs xs → fs ≡ map floor_text xs
floors_only no_line = refl
floors_only (and_line {x = x} (as_written e) s) = rw (e, floors_only s)

lines_all : (s : Sheet) → Keeps s → lines_in s ≡ lines_with (map floor_text (lines_of s.column)) effect_count s
unfolding lines_in lines_with effect_keys
lines_all s ok =
    let es = effect_lines effect_keys s.effects in
    let six = lines_length effect_keys s.effects ok.effects.count in
    rw (take_all effect_count es (omega arith))

-- 01, The sheet: a text is read exactly when it says a sheet that keeps the limits
pub exactly : Exactly
unfolding written
exactly =
    record {
      said = read_is_said;
      read = λ s ls say ok. subst⁻¹ (λ (k : List (List ℕ)). read_sheet (text_of k) ≡ read_as s k) say.all (reads_whole s ok say.floors say.say);
      back =
          λ s ok.
          subst⁻¹ (λ (k : List (List ℕ)). read_sheet (text_of k) ≡ read_as s k) (lines_all s ok)
          (reads_whole s ok (map floor_text (lines_of s.column)) (floors_said (lines_of s.column)));
      only =
          λ text e.
          let r = read_is_said text e in
          let s = (read_sheet text).sheet in
          r.is ∙ ap text_of (r.say.all ∙ (ap (λ (k : List (List ℕ)). lines_with k effect_count s) (floors_only r.say.say) ∙ sym (lines_all s r.keeps)));
    }
