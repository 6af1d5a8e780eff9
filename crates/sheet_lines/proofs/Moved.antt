-- What is read from a place of a line on is what is read at the start of the rest, with its places counted from there.
-- Assumes nothing.
use Rattle.std.proofs.Common.{◌≡◌, refl, sym, ◌∙◌, ap, Bool, true, false, cond, ◌&&◌, List, [], ◌∷◌, ◌++◌, ℕ, ◌+◌, ◌-◌, ◌*◌, ◌≤◌, arith, add_assoc, add-zero, zero-add, eqb, ltb, length, take, drop, length-drop, drop-drop, eq-eqb, ne_eqb, eqb-true}
use lib.Pointwise.{pointwise}
use Rattle.std.specs.Prelude.{Option, Some, None, option_map}
use Rattle.std.proofs.lemmas.Bool.{eqb-false}
use Rattle.sheet_lines.specs.declared.number.Read.{Read}
use Rattle.sheet_lines.specs.declared.Form.{Form}
use Rattle.sheet_lines.specs.declared.Form.TheVariants.{Effect}
use Rattle.newtons.specs.Effect.{signed}
use Rattle.sheet_lines.specs.Number.{may_grow, number_ended, number_from, number_at, begins, field_at}
use Rattle.sheet_lines.specs.inner.InLine.{whole_number}
use Rattle.text.specs.Text.{minus}
use Rattle.sheet_lines.specs.Form.{with_number, fields_from, effect_end, effect_form}
use Rattle.sheet_lines.proofs.AtPlace.{read, strip_is}

-- a number whose place is counted from further back
abbrev pub moved : ℕ → Option Read → Option Read
moved n o = option_map (λ r. read r.value (n + r.next)) o

ended_moved : (n c v p : ℕ) → number_ended c v (n + p) ≡ moved n (number_ended c v p)
unfolding number_ended
ended_moved n c v p = go (eqb c 0)
  where
    go : (t : Bool) → cond t None (Some (read v (n + p))) ≡ moved n (cond t None (Some (read v p)))
    go true = refl
    go false = refl

number_moved : (n c v p : ℕ) (s : List ℕ) → number_from c v (n + p) s ≡ moved n (number_from c v p s)
unfolding number_from
number_moved n c v p [] = ended_moved n c v p
number_moved n c v p (b ∷ s) =
    go (ltb b 48) (ltb 57 b) (may_grow c v)
    (ap (λ (q : ℕ). number_from (c + 1) (v * 10 + (b - 48)) q s) (add_assoc n p 1) ∙ number_moved n (c + 1) (v * 10 + (b - 48)) (p + 1) s)
  where
    go : (t u w : Bool) → number_from (c + 1) (v * 10 + (b - 48)) (n + p + 1) s ≡ moved n (number_from (c + 1) (v * 10 + (b - 48)) (p + 1) s)
        → cond t (number_ended c v (n + p)) (cond u (number_ended c v (n + p)) (cond w (number_from (c + 1) (v * 10 + (b - 48)) (n + p + 1) s) None))
        ≡ moved n (cond t (number_ended c v p) (cond u (number_ended c v p) (cond w (number_from (c + 1) (v * 10 + (b - 48)) (p + 1) s) None)))
    go true u w e = ended_moved n c v p
    go false true w e = ended_moved n c v p
    go false false true e = e
    go false false false e = refl

number_rest : (l : List ℕ) (at p : ℕ) → number_at l (at + p) ≡ moved at (number_at (drop at l) p)
unfolding number_at
number_rest l at p = rw (drop-drop p at l) (number_moved at 0 0 p (drop (at + p) l))

field_rest : (key l : List ℕ) (at p : ℕ) → field_at key l (at + p) ≡ moved at (field_at key (drop at l) p)
unfolding field_at
field_rest key l at p =
    rw (drop-drop p at l, add_assoc at p (length key), number_rest l at (p + length key))
    (go (begins key (drop (at + p) l)))
  where
    go : (t : Bool) → cond t (moved at (number_at (drop at l) (p + length key))) None ≡ moved at (cond t (number_at (drop at l) (p + length key)) None)
    go true = refl
    go false = refl

-- how a number that is counted from further back is gone on with
with_moved : {A : Type 0} (other : A) (n : ℕ) (o : Option Read) (go : ℕ → ℕ → A) → with_number other (moved n o) go ≡ with_number other o λ v p. go v (n + p)
unfolding with_number
with_moved other n None go = refl
with_moved other n (Some r) go = refl

with_same : {A : Type 0} (other : A) (o : Option Read) (f g : ℕ → ℕ → A) → ((v p : ℕ) → f v p ≡ g v p) → with_number other o f ≡ with_number other o g
unfolding with_number
with_same other None f g e = refl
with_same other (Some r) f g e = e r.value r.next

at_end : (l : List ℕ) (at p : ℕ) → at ≤ length l → eqb (at + p) (length l) ≡ eqb p (length (drop at l))
at_end l at p h = go (eqb p (length (drop at l))) refl
  where
    go : (t : Bool) → eqb p (length (drop at l)) ≡ t → eqb (at + p) (length l) ≡ t
    go true e = eq-eqb (at + p) (length l) (omega (arith, eqb-true p (length (drop at l)) e, length-drop at l))
    go false e = ne_eqb (at + p) (length l) (λ q. eqb-false p (length (drop at l)) e (omega (arith, q, length-drop at l)))

fields_moved : (done : List ℕ) (keys : List (List ℕ)) (l : List ℕ) (at p : ℕ) → at ≤ length l → fields_from done keys l (at + p) ≡ fields_from done keys (drop at l) p
unfolding fields_from
fields_moved done [] l at p h = rw (at_end l at p h)
fields_moved done (key ∷ keys) l at p h =
    rw (field_rest key l at p)
    (with_moved None at (field_at key (drop at l) p) (λ n next. fields_from (done ++ (n ∷ [])) keys l next)
    ∙ with_same None (field_at key (drop at l) p) _ _ λ n q. fields_moved (done ++ (n ∷ [])) keys l at q h)

pub fields_rest : (done : List ℕ) (keys : List (List ℕ)) (l : List ℕ) (at : ℕ) → at ≤ length l → fields_from done keys l at ≡ fields_from done keys (drop at l) 0
fields_rest done keys l at h = ap (fields_from done keys l) (sym (add-zero at)) ∙ fields_moved done keys l at 0 h

-- the number behind a key is the one at the start of what stands behind it
pub field_behind : (key s : List ℕ) {rest : List ℕ} {o : Option Read} → pointwise eqb (take (length key) s) key ≡ true → rest ≡ drop (length key) s → o ≡ number_at rest 0
    → field_at key s 0 ≡ moved (length key) o
unfolding field_at
field_behind key s {rest} {o} e r n =
    let b : begins key s ≡ true = sym (strip_is s key) ∙ e in
    let o_is : number_at (drop (length key) s) 0 ≡ o = ap (λ (t : List ℕ). number_at t 0) (sym r) ∙ sym n in
    rw b (ap (number_at s) (zero-add (length key) ∙ sym (add-zero (length key))) ∙ number_rest s (length key) 0 ∙ ap (moved (length key)) o_is)

-- what is made of a number, where there is one
abbrev pub of_number : {A : Type 0} → Option ℕ → (ℕ → Option A) → Option A
of_number None f = None
of_number (Some n) f = f n

with_whole : {A : Type 0} (o : Option Read) (n : ℕ) (f : ℕ → Option A)
    → with_number None o (λ v next. cond (eqb next n) (f v) None) ≡ of_number (with_number None o (λ v next. cond (eqb next n) (Some v) None)) f
unfolding with_number
with_whole None n f = refl
with_whole (Some r) n f = go (eqb r.next n)
  where
    go : (t : Bool) → cond t (f r.value) None ≡ of_number (cond t (Some r.value) None) f
    go true = refl
    go false = refl

-- the number that ends a line is the one that the rest is
pub end_is : (k : ℕ) (l : List ℕ) (at : ℕ) (negative : Bool) → at ≤ length l
    → effect_end k l at negative ≡ of_number (whole_number (drop at l)) λ v. cond (negative && eqb v 0) None (Some (Effect k (signed negative v)))
unfolding effect_end whole_number
end_is k l at negative h =
    rw (ap (number_at l) (sym (add-zero at)) ∙ number_rest l at 0)
    (with_moved None at (number_at (drop at l) 0) (λ v next. cond (eqb next (length l)) (cond (negative && eqb v 0) None (Some (Effect k (signed negative v)))) None)
    ∙ (with_same None (number_at (drop at l) 0) _ _ (λ v q. rw (at_end l at q h))
    ∙ with_whole (number_at (drop at l) 0) (length (drop at l)) (λ v. cond (negative && eqb v 0) None (Some (Effect k (signed negative v))))))

-- the form of an effect's line, from what stands behind its key, and behind its minus sign
module _ (place : ℕ) (key line : List ℕ) {rest : List ℕ} (starts : pointwise eqb (take (length key) line) key ≡ true) (is : rest ≡ drop (length key) line) (inside : length key ≤ length line) where
  -- what a number says there
  abbrev pub effect_by : Bool → ℕ → Option Form
  effect_by negative v = cond (negative && eqb v 0) None (Some (Effect place (signed negative v)))

  begun : begins key line ≡ true
  begun = sym (strip_is line key) ∙ starts

  pub plain_form : pointwise eqb (take 1 rest) (minus ∷ []) ≡ false → {o : Option ℕ} → whole_number rest ≡ o → effect_form place key line ≡ of_number o (effect_by false)
  unfolding effect_form
  plain_form m {o} w =
      let plain : begins (minus ∷ []) (drop (length key) line) ≡ false = rw (← is) (sym (strip_is rest (minus ∷ [])) ∙ m) in
      rw (begun, plain) (end_is place line (length key) false inside ∙ rw (← is, w))

  pub signed_form : pointwise eqb (take 1 rest) (minus ∷ []) ≡ true → {size : List ℕ} → size ≡ drop 1 rest → 1 ≤ length rest → {o : Option ℕ} → whole_number size ≡ o
      → effect_form place key line ≡ of_number o (effect_by true)
  unfolding effect_form
  signed_form m {size} d h {o} w =
      let sign : begins (minus ∷ []) (drop (length key) line) ≡ true = rw (← is) (sym (strip_is rest (minus ∷ [])) ∙ m) in
      let behind : size ≡ drop (length key + 1) line = d ∙ ap (drop 1) is ∙ drop-drop 1 (length key) line in
      let within : length key + 1 ≤ length line = omega (arith, ap length is, length-drop (length key) line) in
      rw (begun, sign) (end_is place line (length key + 1) true within ∙ rw (← behind, w))

-- one number more of a line is read, behind its key
pub fields_more : (done : List ℕ) (key : List ℕ) (keys : List (List ℕ)) (s : List ℕ) (v p : ℕ) → field_at key s 0 ≡ Some (read v p) → p ≤ length s
    → fields_from done (key ∷ keys) s 0 ≡ fields_from (done ++ (v ∷ [])) keys (drop p s) 0
unfolding fields_from with_number
fields_more done key keys s v p e h = rw e (fields_rest (done ++ (v ∷ [])) keys s p h)

-- after the last key nothing may be left
pub fields_left : (done s : List ℕ) → (length s ≡ 0 → ⊥) → fields_from done [] s 0 ≡ None
unfolding fields_from
fields_left done s h = rw (ne_eqb 0 (length s) (λ e. h (sym e)))
