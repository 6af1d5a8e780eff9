-- A line has its form exactly where its text says so.
-- Assumes nothing.
use Rattle.std.proofs.Common.{◌≡◌, refl, sym, ◌∙◌, ap, subst, Bool, true, false, cond, ◌&&◌, List, [], ◌∷◌, ◌++◌, append_assoc, append-nil, ℕ, zero, suc, ◌+◌, ◌<◌, arith, eqb, ltb, length, drop, drop_of_length-le, length-drop, drop-drop, ℤ, pos, negsuc, nat_abs, eq-eqb, ne_eqb, lt-ltb, eqb-true, ltb-true}
use Rattle.lists.specs.Lists.{All, none as nil, more}
use Rattle.lists.proofs.Lists.{by_places}
use Rattle.text.specs.Text.{minus, decimal, signed_decimal}
use Rattle.text.proofs.Decimal.{length_some, decimal_all}
use Rattle.text.proofs.Sign.{signed_pos, signed_neg}
use Rattle.newtons.specs.Effect.{signed}
use Rattle.std.specs.Prelude.{Option, Some, None, option_map}
use Rattle.std.proofs.Math.Path.{subst⁻¹}
use Rattle.std.proofs.Math.Seq.{drop-append_seam, drop-append-add}
use Rattle.std.proofs.lemmas.Bool.{false≢true, eqb-false}
use Rattle.sheet_lines.specs.declared.Due.{Due}
use Rattle.sheet_lines.specs.declared.Due.TheVariants as D
use Rattle.sheet_lines.specs.declared.Form.{Form}
use Rattle.sheet_lines.specs.declared.Form.TheVariants as F
use Rattle.sheet_lines.specs.Number.{number_at, begins}
use Rattle.sheet_lines.specs.Form.{member_keys, floor_keys, effect_keys, effect_count, with_number, fields_from, member_form, line_from, floor_form, effect_end, effect_form, is_floor, later_form, form_of}
use Rattle.sheet_lines.specs.LineText.{line_numbers, fields_text, member_text, floor_text, effect_text}
use Rattle.sheet_lines.specs.theorems.Says.{key_at, as_written, Says, member, floor, effect}
use Rattle.sheet_lines.proofs.AtPlace.{either, begins_from, begins_to}
use Rattle.sheet_lines.proofs.NumberText.{stops_end, number_from_lem, number_to}
use Rattle.sheet_lines.proofs.Fields.{with_number_lem, fields_from_lem, fields_to, Short, low_after, low}

-- ---- a line that has a form says so

-- a line says this, or has not the form
pub data Read (due : Due) (l : List ℕ) (o : Option Form) : Type 0 where
  says : (f : Form) → o ≡ Some f → Says due l f → Read due l o
  malformed : o ≡ None → Read due l o

-- a line that is read by some keys has the text of numbers, one to a key
by_keys : {due : Due} (keys : List (List ℕ)) (l : List ℕ) (form : List ℕ → Form)
    → ((ns : List ℕ) → length ns ≡ length keys → l ≡ fields_text keys ns → Says due l (form ns)) → Read due l (option_map form (fields_from [] keys l 0))
by_keys {due} keys l form k = go (fields_from [] keys l 0) refl
  where
    go : (o : Option (List ℕ)) → fields_from [] keys l 0 ≡ o → Read due l (option_map form o)
    go None e = malformed refl
    go (Some ns) e = let r = fields_from_lem keys [] l 0 ns e in says (form ns) refl (k ns (ap length r.all ∙ r.each) (r.text ∙ ap (fields_text keys) (sym r.all)))

member_read : (l : List ℕ) → Read D.Member l (member_form l)
unfolding member_form member_text member_keys
member_read l = by_keys member_keys l _ λ ns h e. member _ refl refl (e ∙ ap (fields_text member_keys) (by_places 1 ns 0 h))

floor_read : (l : List ℕ) → Read (D.Effect 0) l (floor_form l)
unfolding floor_form floor_text floor_keys line_numbers line_from
floor_read l = by_keys floor_keys l _ λ ns h e. floor _ refl refl (as_written (e ∙ ap (fields_text floor_keys) (by_places 4 ns 0 h)))

-- the number that ends a line, with its sign
unfoldable mark : Bool → List ℕ → List ℕ
mark true d = minus ∷ d
mark false d = d

marked : (negative : Bool) (v : ℕ) → negative && eqb v 0 ≡ false → mark negative (decimal v) ≡ signed_decimal (signed negative v)
unfolding mark signed
marked true zero e = absurd (eqb-false 0 0 e refl)
marked true (suc v) e = sym (signed_neg v)
marked false v e = sym (signed_pos v)

module _ (k : ℕ) (h : k < effect_count) (l : List ℕ) where
  abbrev key : List ℕ
  key = key_at effect_keys k

  end_read : (at : ℕ) (negative : Bool) → l ≡ key ++ mark negative (drop at l) → Read (D.Effect k) l (effect_end k l at negative)
  unfolding effect_end effect_text
  end_read at negative b =
      let R = Read (D.Effect k) l in
      with_number_lem R None (number_at l at) _ (malformed refl) λ v p n.
      either R (eqb p (length l)) _ _
      (λ q.
      either R (negative && eqb v 0) _ _ (λ _. malformed refl) λ m.
      let d : drop p l ≡ [] = drop_of_length-le l {i = p} (omega (arith, eqb-true p (length l) q)) in
      let t : drop at l ≡ decimal v = number_from_lem l at v p n ∙ ap (λ (x : List ℕ). decimal v ++ x) d ∙ append-nil (decimal v) in
      says (F.Effect k (signed negative v)) refl (effect k (signed negative v) h refl refl (b ∙ ap (λ (x : List ℕ). key ++ x) (ap (mark negative) t ∙ marked negative v m))))
      λ _. malformed refl

  effect_read : Read (D.Effect k) l (effect_form k key l)
  unfolding effect_form mark
  effect_read =
      let R = Read (D.Effect k) l in
      either R (begins key l) _ _
      (λ b.
      let s : l ≡ key ++ drop (length key) l = begins_from key l b in
      either R (begins (minus ∷ []) (drop (length key) l)) _ _
      (λ m.
      let o : drop (length key) l ≡ minus ∷ drop (length key + 1) l = rw drop-drop at (begins_from (minus ∷ []) (drop (length key) l) m) in
      end_read (length key + 1) true (s ∙ ap (λ (x : List ℕ). key ++ x) o))
      λ _. end_read (length key) false s)
      λ _. malformed refl

later_read : (k : ℕ) (l : List ℕ) → Read (D.Effect k) l (later_form k l)
unfolding later_form is_floor
later_read k l =
    let R = Read (D.Effect k) l in
    either R (ltb k effect_count) _ _
    (λ h.
    either R (cond (eqb k 0) (begins (key_at floor_keys 0) l) false) _ _
    (λ f. subst⁻¹ (λ (n : ℕ). Read (D.Effect n) l (floor_form l)) (first k f) (floor_read l))
    λ _. effect_read k (ltb-true k effect_count h) l)
    λ _. malformed refl
  where
    first : (k : ℕ) → cond (eqb k 0) (begins (key_at floor_keys 0) l) false ≡ true → k ≡ 0
    first k = either (λ t. t ≡ true → k ≡ 0) (eqb k 0) _ _ (λ h _. eqb-true k 0 h) (λ _ e. absurd (false≢true e))

-- what a line is read as, it says
pub form_read : (due : Due) (l : List ℕ) → Read due l (form_of due l)
unfolding form_of
form_read D.Member l = member_read l
form_read (D.Effect k) l = later_read k l

-- ---- a line that says this has its form

-- the numbers of a form have at most 13 digits
unfoldable pub ShortForm : Form → Type 0
ShortForm (F.Member code) = Short code
ShortForm (F.Floor x) = All Short (line_numbers x)
ShortForm (F.Effect k z) = Short (nat_abs z)

keys_to : (keys : List (List ℕ)) (ns : List ℕ) (form : List ℕ → Form) → low_after keys ≡ true → All Short ns → length ns ≡ length keys
    → option_map form (fields_from [] keys (fields_text keys ns) 0) ≡ Some (form ns)
keys_to keys ns form h a q = rw (fields_to keys ns [] (fields_text keys ns) 0 h a q (omega arith) refl)

end_to : (k : ℕ) (l : List ℕ) (at : ℕ) (negative : Bool) (n : ℕ) → Short n → drop at l ≡ decimal n → negative && eqb n 0 ≡ false
    → effect_end k l at negative ≡ Some (F.Effect k (signed negative n))
unfolding effect_end with_number
end_to k l at negative n h d s =
    let q : at + length (decimal n) ≡ length l = omega (arith, length_some n, sym (length-drop at l) ∙ ap length d) in
    rw (number_to l at n [] h stops_end (d ∙ sym (append-nil (decimal n))), q, eq-eqb (length l) (length l) refl, s)

-- a number begins with no minus sign
no_minus : (n : ℕ) → begins (minus ∷ []) (decimal n) ≡ false
unfolding begins
no_minus n = rw append-nil at (decimal_all Plain (λ d s. rw (ne_eqb (48 + d) 45 (λ e. omega arith))) (λ a d h s. rw append_assoc (h ((48 + d) ∷ s))) n [])
  where
    Plain : List ℕ → Type 0
    Plain a = (s : List ℕ) → begins (minus ∷ []) (a ++ s) ≡ false

effect_to : (k : ℕ) (key : List ℕ) (z : ℤ) → Short (nat_abs z) → effect_form k key (effect_text key z) ≡ Some (F.Effect k z)
unfolding effect_form effect_text signed
effect_to k key (pos n) h =
    let d : drop (length key) (key ++ decimal n) ≡ decimal n = drop-append_seam key (decimal n) in
    let m : begins (minus ∷ []) (drop (length key) (key ++ decimal n)) ≡ false = rw d (no_minus n) in
    rw (signed_pos n, begins_to key (decimal n), m) (end_to k (key ++ decimal n) (length key) false n h d refl)
effect_to k key (negsuc n) h =
    let s : List ℕ = minus ∷ decimal (suc n) in
    let d : drop (length key) (key ++ s) ≡ s = drop-append_seam key s in
    let m : begins (minus ∷ []) (drop (length key) (key ++ s)) ≡ true = rw d (begins_to (minus ∷ []) (decimal (suc n))) in
    rw (signed_neg n, begins_to key s, m) (end_to k (key ++ s) (length key + 1) true (suc n) h (drop-append-add key s 1) (ne_eqb (suc n) 0 (λ e. omega arith)))

-- an effect's line is no floor line
no_floor : (k : ℕ) (z : ℤ) → is_floor k (effect_text (key_at effect_keys k) z) ≡ false
unfolding is_floor effect_text effect_keys floor_keys begins
no_floor zero z = refl
no_floor (suc k) z = rw (ne_eqb (suc k) 0 (λ e. omega arith))

-- what a line says, it is read as
pub says_form : {due : Due} {l : List ℕ} {f : Form} → Says due l f → ShortForm f → form_of due l ≡ Some f
unfolding form_of ShortForm member_form member_text member_keys later_form is_floor floor_form floor_text floor_keys line_numbers line_from fields_text begins low low_after
says_form (member code d f t) h = rw (d, f, t) (keys_to member_keys (code ∷ []) _ refl (more (subst ShortForm f h) nil) refl)
says_form (floor x d f (as_written t)) h = rw (d, f, t) (keys_to floor_keys (line_numbers x) _ refl (subst ShortForm f h) refl)
says_form (effect k z q d f t) h = rw (d, f, t, lt-ltb k effect_count q, no_floor k z) (effect_to k (key_at effect_keys k) z (subst ShortForm f h))
