-- One step of each definition that goes over bytes, at a place of a line; how large a number is and where it ends; and what begins with a key.
-- Assumes nothing.
use lib.Pointwise.{pointwise}
use Rattle.std.specs.Prelude.{Option, Some, None, option_map, slice_get}
use Rattle.std.specs.List.{starts_with}
use Rattle.std.proofs.Common.{inl, inr, ◌≡◌, refl, sym, ◌∙◌, ap, ap₂, subst, Bool, true, false, cond, ◌&&◌, List, [], ◌∷◌, ◌++◌, ℕ, zero, suc, ◌+◌, ◌-◌, ◌*◌, ◌^◌, ◌<◌, ◌≤◌, arith, add-one, pow-suc, length, take, drop, get_or, drop_of_length-le, length-append, length-drop, drop-cons, ltb, eqb, lit≤, lt-ltb, le-ltb, eq-eqb, ne_eqb, eqb-true, ltb-true}
use Rattle.std.specs.Char.{IsNotAsciiDigit}
use Rattle.std.proofs.Math.Nat.{pow-le-pow_right}
use Rattle.std.proofs.lemmas.Bool.{false≢true, eqb-false}
use Rattle.sheet_lines.specs.declared.number.Read.{Read}
use Rattle.sheet_lines.specs.Number.{may_grow, number_ended, number_from, begins, field_at}
use Rattle.sheet_lines.specs.declared.Form.{Form}
use Rattle.sheet_lines.specs.Form.{with_number, fields_from}
use Rattle.sheet_lines.specs.theorems.Says.{key_at}
use Rattle.sheet_lines.specs.inner.InLine.{Small}

-- a number that was read, and the place after it
abbrev pub read : ℕ → ℕ → Read
read v p = record { value = v; next = p }

-- a choice that came out as x, by cases
pub chosen : {A : Type 0} {G : Type 0} (t : Bool) (a b x : A) → cond t a b ≡ x → (t ≡ true → a ≡ x → G) → (t ≡ false → b ≡ x → G) → G
chosen true a b x e f g = f refl e
chosen false a b x e f g = g refl e

-- what holds of a choice, by cases
pub either : {A : Type 0} (P : A → Type 0) (t : Bool) (a b : A) → (t ≡ true → P a) → (t ≡ false → P b) → P (cond t a b)
either P true a b f g = f refl
either P false a b f g = g refl

-- the bytes from a place on, opened by one
pub opened : (l : List ℕ) (i : ℕ) → i < length l → drop i l ≡ get_or l i 0 ∷ drop (i + 1) l
opened l i h = rw (add-one, drop-cons l i 0)

module _ (l : List ℕ) (count value next : ℕ) where
  -- at the end of the line
  pub number_end : length l ≤ next → number_from count value next (drop next l) ≡ number_ended count value next
  unfolding number_from
  number_end h = rw (drop_of_length-le l h)

  -- at a byte below the digits, and at one above them
  pub number_low : next < length l → get_or l next 0 < 48 → number_from count value next (drop next l) ≡ number_ended count value next
  unfolding number_from
  number_low h b = rw (opened l next h, lt-ltb _ _ b)

  pub number_high : next < length l → 48 ≤ get_or l next 0 → 57 < get_or l next 0 → number_from count value next (drop next l) ≡ number_ended count value next
  unfolding number_from
  number_high h a b = rw (opened l next h, le-ltb _ _ a, lt-ltb _ _ b)

  -- so at a byte that is no digit
  pub number_other : next < length l → IsNotAsciiDigit (get_or l next 0) → number_from count value next (drop next l) ≡ number_ended count value next
  number_other h (inl b) = number_low h b
  number_other h (inr b) = number_high h (omega arith) b

  -- at a digit
  pub number_digit : next < length l → 48 ≤ get_or l next 0 → get_or l next 0 ≤ 57 → (t : Bool) → may_grow count value ≡ t
      → number_from count value next (drop next l)
      ≡ cond t (number_from (count + 1) (value * 10 + (get_or l next 0 - 48)) (next + 1) (drop (next + 1) l)) None
  unfolding number_from
  number_digit h a b t e = rw (opened l next h, le-ltb _ _ a, le-ltb _ _ b, e)

-- a digit may follow 12 digits or fewer, and none that are 0 alone
pub grow_only : (count value : ℕ) → may_grow count value ≡ true → (count < 13) × (0 < count → 0 < value)
unfolding may_grow
grow_only count value e =
    chosen (eqb count 0) true _ true e
    (λ p _. let z : count ≡ 0 = eqb-true count 0 p in (omega arith, λ h. absurd (omega arith))) λ _ e.
    chosen (eqb value 0) false (ltb count 13) true e (λ _ z. absurd (false≢true z)) λ q e.
    (ltb-true count 13 e, λ h. omega (arith, eqb-false value 0 q))

-- one digit more keeps a value below the power of ten
pub grown : (count value d : ℕ) → value < 10 ^ count → d < 10 → value * 10 + d < 10 ^ (count + 1)
grown count value d h k = let e : 10 ^ (count + 1) ≡ 10 ^ count * 10 = rw (add-one, pow-suc) in rw e (omega arith)

-- so that a value of at most so many digits is below a higher power
pub below : {count most value : ℕ} → value < 10 ^ count → count ≤ most → value < 10 ^ most
below {count} {most} h k = let m : 10 ^ count ≤ 10 ^ most = pow-le-pow_right (lit≤ tt) k in omega arith

-- a number of at most 13 digits that ends within the line
pub ended_small : (count value next most : ℕ) → value < 10 ^ count → count ≤ 13 → next ≤ most → Small most (number_ended count value next)
unfolding number_ended Small
ended_small count value next most h k e = go (eqb count 0)
  where
    go : (t : Bool) → Small most (cond t None (Some (read value next)))
    go true = tt
    go false = (below h k, e)

module _ (key line : List ℕ) (i at : ℕ) where
  -- the whole key stands there
  pub begins_end : length key ≤ i → begins (drop i key) (drop at line) ≡ true
  unfolding begins
  begins_end h = rw (drop_of_length-le key h)

  -- the line ends within the key
  pub begins_short : i < length key → length line ≤ at → begins (drop i key) (drop at line) ≡ false
  unfolding begins
  begins_short h k = rw (opened key i h, drop_of_length-le line k)

  -- another byte stands there
  pub begins_other : i < length key → at < length line → (get_or line at 0 ≡ get_or key i 0 → ⊥) → begins (drop i key) (drop at line) ≡ false
  unfolding begins
  begins_other h k n = rw (opened key i h, opened line at k, ne_eqb _ _ n)

  -- the same byte stands there
  pub begins_same : i < length key → at < length line → get_or line at 0 ≡ get_or key i 0
      → begins (drop i key) (drop at line) ≡ begins (drop (i + 1) key) (drop (at + 1) line)
  unfolding begins
  begins_same h k n = rw (opened key i h, opened line at k, eq-eqb _ _ n)

-- begins is what the library tests
pub begins_is : (s key : List ℕ) → starts_with eqb s key ≡ begins key s
unfolding begins
begins_is s [] = refl
begins_is [] (k ∷ ks) = refl
begins_is (b ∷ s) (k ∷ ks) = go (eqb b k) refl (begins_is s ks)
  where
    go : (t : Bool) → eqb b k ≡ t → starts_with eqb s ks ≡ begins ks s → eqb k b && starts_with eqb s ks ≡ cond t (begins ks s) false
    go true e h = rw (eqb-true b k e, eq-eqb k k refl) h
    go false e h = rw (ne_eqb k b (λ q. eqb-false b k e (sym q)))

pub strip_is : (s key : List ℕ) → pointwise eqb (take (length key) s) key ≡ begins key s
unfolding begins
strip_is s [] = refl
strip_is [] (k ∷ ks) = refl
strip_is (b ∷ s) (k ∷ ks) = go (eqb b k) (strip_is s ks)
  where
    go : (t : Bool) → pointwise eqb (take (length ks) s) ks ≡ begins ks s → t && pointwise eqb (take (length ks) s) ks ≡ cond t (begins ks s) false
    go true h = h
    go false h = refl

-- a text that begins with a key is the key, and then the text from its length on
pub begins_from : (key s : List ℕ) → begins key s ≡ true → s ≡ key ++ drop (length key) s
unfolding begins
begins_from [] s e = refl
begins_from (k ∷ ks) [] e = absurd (false≢true e)
begins_from (k ∷ ks) (b ∷ s) e =
    let on : begins ks s ≡ true → s ≡ ks ++ drop (length ks) s = begins_from ks s in
    chosen (eqb b k) (begins ks s) false true e (λ h t. ap₂ ◌∷◌ (eqb-true b k h) (on t)) (λ _ z. absurd (false≢true z))

-- a text with a key in front begins with it
pub begins_to : (key s : List ℕ) → begins key (key ++ s) ≡ true
unfolding begins
begins_to [] s = refl
begins_to (k ∷ ks) s = rw (eq-eqb k k refl) (begins_to ks s)

-- a key that stands at a place ends within the line
pub key_within : (key line : List ℕ) (at : ℕ) → at ≤ length line → begins key (drop at line) ≡ true → at + length key ≤ length line
key_within key line at h e = omega (arith, ap length (begins_from key (drop at line) e) ∙ length-append key _, length-drop at line)

-- what is known of a number that was read
pub small_is : {most : ℕ} {o : Option Read} {r : Read} → Small most o → o ≡ Some r → (r.value < 10000000000000) × (r.next ≤ most)
unfolding Small
small_is {most} h e = subst (Small most) e h

module _ (done : List ℕ) (keys : List (List ℕ)) (l : List ℕ) (at i : ℕ) (h : i < length keys) where
  -- the number behind the next key is read
  pub fields_next : (v p : ℕ) → field_at (key_at keys i) l at ≡ Some (read v p)
      → fields_from done (drop i keys) l at ≡ fields_from (done ++ (v ∷ [])) (drop (i + 1) keys) l p
  unfolding fields_from with_number
  fields_next v p e = rw (add-one, drop-cons keys i [], e)

  -- or there is none
  pub fields_none : field_at (key_at keys i) l at ≡ None → fields_from done (drop i keys) l at ≡ None
  unfolding fields_from with_number
  fields_none e = rw (drop-cons keys i [], e)

-- after the last key the line has ended
pub fields_end : (done : List ℕ) (keys : List (List ℕ)) (l : List ℕ) (at i : ℕ) → length keys ≤ i
    → fields_from done (drop i keys) l at ≡ cond (eqb at (length l)) (Some done) None
unfolding fields_from
fields_end done keys l at i h = rw (drop_of_length-le keys h)

-- the form of a line by what was told of its numbers
pub form_told : (b : Bool) (ns : List ℕ) {o : Option (List ℕ)} (form : List ℕ → Form) → cond b (Some ns) None ≡ o → option_map form o ≡ cond b (Some (form ns)) None
form_told true ns form e = rw (← e)
form_told false ns form e = rw (← e)

-- what is looked up at a place of a list: an item before its end, and none from there on
pub get_none : {A : Type 0} (xs : List A) (i : ℕ) → None ≡ slice_get xs i → length xs ≤ i
get_none [] i e = omega arith
get_none (x ∷ xs) zero e = let z : ◌≡◌ {A = ℕ} 0 1 = cc in absurd (omega arith)
get_none (x ∷ xs) (suc i) e = omega (arith, get_none xs i e)

pub get_some : {A : Type 0} (xs : List A) (i : ℕ) (d x : A) → Some x ≡ slice_get xs i → (i < length xs) × (x ≡ get_or xs i d)
get_some [] i d x e = let z : ◌≡◌ {A = ℕ} 0 1 = cc in absurd (omega arith)
get_some (y ∷ ys) zero d x e = (omega arith, cc)
get_some (y ∷ ys) (suc i) d x e = let r = get_some ys i d x e in (omega (arith, r.0), r.1)
