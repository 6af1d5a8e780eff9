-- Numbers behind their keys are read where they are written, and nowhere else, for any list of keys.
-- Assumes nothing.
use Rattle.std.proofs.Common.{◌≡◌, refl, sym, ◌∙◌, ap, Bool, true, false, cond, List, [], ◌∷◌, ◌++◌, append_assoc, append-nil, ℕ, suc, ◌+◌, ◌≤◌, ◌<◌, arith, eqb, ltb, length, drop, drop_of_length-le, length-append, length-drop, drop-drop, eq-eqb, eqb-true, ltb-true}
use Rattle.text.specs.Text.{decimal}
use Rattle.lists.specs.Lists.{All, none as nil, more}
use Rattle.std.specs.Prelude.{Option, Some, None}
use Rattle.std.proofs.Math.Seq.{drop-append_seam}
use Rattle.std.proofs.lemmas.Bool.{false≢true}
use Rattle.sheet_lines.specs.declared.number.Read.{Read}
use Rattle.sheet_lines.specs.Number.{number_at, begins, field_at}
use Rattle.sheet_lines.specs.Form.{with_number, fields_from}
use Rattle.sheet_lines.specs.LineText.{fields_text}
use Rattle.sheet_lines.proofs.AtPlace.{read, chosen, either, begins_from, begins_to}
use Rattle.sheet_lines.proofs.NumberText.{NoDigit, stops_end, stops_low, number_from_lem, number_to}

-- what holds of going on with a number, by cases
pub with_number_lem : {A : Type 0} (P : A → Type 0) (other : A) (n : Option Read) (go : ℕ → ℕ → A) → P other → ((v p : ℕ) → n ≡ Some (read v p) → P (go v p)) → P (with_number other n go)
unfolding with_number
with_number_lem P other (Some r) go f k = k r.value r.next refl
with_number_lem P other None go f k = f

field_from : (key l : List ℕ) (at v p : ℕ) → field_at key l at ≡ Some (read v p) → drop at l ≡ key ++ (decimal v ++ drop p l)
unfolding field_at
field_from key l at v p e =
    chosen (begins key (drop at l)) (number_at l (at + length key)) None (Some (read v p)) e
    (λ b n. begins_from key (drop at l) b ∙ ap (λ (x : List ℕ). key ++ x) (drop-drop (length key) at l ∙ number_from_lem l (at + length key) v p n))
    λ _ k. let z : ◌≡◌ {A = ℕ} 0 1 = cc in absurd (omega arith)

-- what is read from a line's bytes behind these numbers: numbers that are written there, one to a key
pub record ReadFrom (done : List ℕ) (keys : List (List ℕ)) (bytes ns : List ℕ) : Type 0 where
  pub numbers : List ℕ
  pub all : ns ≡ done ++ numbers
  pub text : bytes ≡ fields_text keys numbers
  pub each : length numbers ≡ length keys

-- numbers that are read were written
pub fields_from_lem : (keys : List (List ℕ)) (done l : List ℕ) (at : ℕ) (ns : List ℕ) → fields_from done keys l at ≡ Some ns → ReadFrom done keys (drop at l) ns
unfolding fields_from fields_text
fields_from_lem [] done l at ns =
    either (λ o. o ≡ Some ns → ReadFrom done [] (drop at l) ns) (eqb at (length l)) (Some done) None
    (λ h k.
    let same : done ≡ ns = cc in
    record { numbers = []; all = sym same ∙ sym (append-nil done); text = drop_of_length-le l {i = at} (omega (arith, eqb-true at (length l) h)); each = refl })
    λ _ k. let z : ◌≡◌ {A = ℕ} 0 1 = cc in absurd (omega arith)
fields_from_lem (key ∷ keys) done l at ns =
    with_number_lem (λ o. o ≡ Some ns → ReadFrom done (key ∷ keys) (drop at l) ns) None (field_at key l at) _
    (λ k. let z : ◌≡◌ {A = ℕ} 0 1 = cc in absurd (omega arith)) λ v p n e.
    let r = fields_from_lem keys (done ++ (v ∷ [])) l p ns e in
    record {
      numbers = v ∷ r.numbers;
      all = r.all ∙ append_assoc done (v ∷ []) r.numbers;
      text = field_from key l at v p n ∙ ap (λ (x : List ℕ). key ++ (decimal v ++ x)) r.text;
      each = ap suc r.each;
    }

-- each key begins with a byte below the digits
unfoldable pub low : List (List ℕ) → Bool
low [] = true
low ([] ∷ keys) = false
low ((b ∷ key) ∷ keys) = cond (ltb b 48) (low keys) false

-- so does each key but the first
unfoldable pub low_after : List (List ℕ) → Bool
low_after [] = true
low_after (key ∷ keys) = low keys

low_after_lem : (keys : List (List ℕ)) → low keys ≡ true → low_after keys ≡ true
unfolding low low_after
low_after_lem [] h = refl
low_after_lem ([] ∷ keys) h = absurd (false≢true h)
low_after_lem ((b ∷ key) ∷ keys) h = chosen (ltb b 48) (low keys) false true h (λ _ e. e) (λ _ e. absurd (false≢true e))

stops : (keys : List (List ℕ)) (ns : List ℕ) → low keys ≡ true → NoDigit (fields_text keys ns)
unfolding low fields_text
stops [] ns h = stops_end
stops ([] ∷ keys) ns h = absurd (false≢true h)
stops ((b ∷ key) ∷ keys) [] h = stops_end
stops ((b ∷ key) ∷ keys) (n ∷ ns) h =
    chosen (ltb b 48) (low keys) false true h (λ q _. stops_low b _ (ltb-true b 48 q)) (λ _ e. absurd (false≢true e))

-- a number of at most 13 digits
abbrev pub Short : ℕ → Type 0
Short n = n < 10000000000000

module _ (key l : List ℕ) (at n : ℕ) (s : List ℕ) (e : drop at l ≡ key ++ (decimal n ++ s)) where
  abbrev place : ℕ
  place = at + length key + length (decimal n)

  field_to : Short n → NoDigit s → field_at key l at ≡ Some (read n place)
  unfolding field_at
  field_to h t =
      let b : begins key (drop at l) ≡ true = rw e (begins_to key (decimal n ++ s)) in
      let d : drop (at + length key) l ≡ decimal n ++ s = rw (← drop-drop (length key) at l, e) (drop-append_seam key (decimal n ++ s)) in
      rw b (number_to l (at + length key) n s h t d)

  left_to : drop place l ≡ s
  left_to = rw (← drop-drop (length (decimal n)) (at + length key) l, ← drop-drop (length key) at l, e, drop-append_seam key (decimal n ++ s)) (drop-append_seam (decimal n) s)

  inside_to : at ≤ length l → place ≤ length l
  inside_to h = omega (arith, length-drop at l, ap length e ∙ length-append key (decimal n ++ s), length-append (decimal n) s)

-- numbers that are written are read
pub fields_to : (keys : List (List ℕ)) (ns done l : List ℕ) (at : ℕ) → low_after keys ≡ true → All Short ns → length ns ≡ length keys → at ≤ length l
    → drop at l ≡ fields_text keys ns → fields_from done keys l at ≡ Some (done ++ ns)
unfolding fields_from fields_text with_number low_after
fields_to [] [] done l at h nil q i e = rw (eq-eqb at (length l) (omega (arith, length-drop at l, ap length e)), append-nil done)
fields_to [] (n ∷ ns) done l at h a q i e = absurd (omega arith)
fields_to (key ∷ keys) [] done l at h a q i e = absurd (omega arith)
fields_to (key ∷ keys) (n ∷ ns) done l at h (more s a) q i e =
    let f = field_to key l at n (fields_text keys ns) e s (stops keys ns h) in
    rw f
    (fields_to keys ns (done ++ (n ∷ [])) l (place key l at n (fields_text keys ns) e) (low_after_lem keys h) a (omega arith) (inside_to key l at n (fields_text keys ns) e i) (left_to key l at n (fields_text keys ns) e)
    ∙ ap Some (append_assoc done (n ∷ []) ns))
