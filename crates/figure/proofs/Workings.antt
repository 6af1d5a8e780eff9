-- What holds at every floor in a table, a place a floor.
-- Assumes nothing.
use Rattle.std.proofs.Common.{◌≡◌, refl, sym, ◌∙◌, ap, arith, ℕ, zero, suc, ◌+◌, ◌-◌, ◌≤◌, ◌<◌, false, List, [], ◌∷◌, ◌++◌, Option, None, length, set, replicate, length-append, append-nil, append_assoc}
use Rattle.std.proofs.lemmas.List.{length-replicate}
use Rattle.column.specs.declared.Column.{Column}
use Rattle.figure.specs.declared.Working.{Working}
use Rattle.figure.specs.Carried.{has_floor}
use Rattle.column.specs.Column.{lines_of}
use Rattle.figure.specs.Asked.{asked_of, asked}
use Rattle.figure.specs.Workings.{working_said, workings_of}

pub workings_length : (c : Column) (f : ℕ) → length (workings_of c f) ≡ f
unfolding workings_of
workings_length c zero = refl
workings_length c (suc f) =
    length-append (workings_of c f) (working_said (asked c (suc f)) ∷ []) ∙ omega (arith, workings_length c f)

-- so many floors without lines
abbrev nones : ℕ → List (Option Working)
nones n = replicate n None

-- the table where floor f is passed: what holds at every floor to it, then nothing
unfoldable pub passed_to : Column → ℕ → List (Option Working)
passed_to c f = workings_of c f ++ nones (64 - f)

next_none : (f : ℕ) → f < 64 → nones (64 - f) ≡ None ∷ nones (64 - suc f)
next_none f h = let e : 64 - f ≡ suc (64 - suc f) = omega arith in ap nones e

-- the place after some is that of the first one left
set_next : {A : Type 0} (xs ys : List A) (y x : A) (k : ℕ) → length xs ≡ k → set (xs ++ (y ∷ ys)) k x ≡ (xs ++ (x ∷ [])) ++ ys
set_next [] ys y x zero e = refl
set_next [] ys y x (suc k) e = absurd (omega (arith, e))
set_next (z ∷ xs) ys y x zero e = absurd (omega (arith, e))
set_next {A} (z ∷ xs) ys y x (suc k) e = ap (λ (l : List A). z ∷ l) (set_next xs ys y x k (omega (arith, e)))

module _ (c : Column) where
  passed_one : (f : ℕ) → f < 64 → has_floor (suc f) (lines_of c) ≡ false → passed_to c f ≡ passed_to c (suc f)
  unfolding passed_to workings_of working_said asked_of
  passed_one f h e = rw (e, next_none f h) (sym (append_assoc (workings_of c f) (None ∷ []) (nones (64 - suc f))))

  -- floors without lines are passed over
  pub passed_over : (d f g : ℕ) → f + d ≡ g → g ≤ 64 → ((k : ℕ) → f < k → k ≤ g → has_floor k (lines_of c) ≡ false) → passed_to c f ≡ passed_to c g
  passed_over zero f g e h p = let at : f ≡ g = omega arith in ap (passed_to c) at
  passed_over (suc d) f g e h p =
      passed_one f (omega arith) (p (suc f) (omega arith) (omega arith))
      ∙ passed_over d (suc f) g (omega arith) h (λ k q. p k (omega arith))

  pub passed_length : (f : ℕ) → f ≤ 64 → length (passed_to c f) ≡ 64
  unfolding passed_to
  passed_length f h =
      length-append (workings_of c f) (nones (64 - f))
      ∙ rw (workings_length c f, length-replicate {A = Option Working} (64 - f) None) (omega arith)

  -- what holds at the next floor is put after the floors passed
  pub passed_put : {w : Option Working} (f : ℕ) → f < 64 → working_said (asked c (suc f)) ≡ w → set (passed_to c f) f w ≡ passed_to c (suc f)
  unfolding passed_to workings_of
  passed_put {w} f h e = rw (next_none f h, e) (set_next (workings_of c f) (nones (64 - suc f)) None w f (workings_length c f))

  -- before any, and after all
  pub passed_none : passed_to c 0 ≡ nones 64
  unfolding passed_to workings_of
  passed_none = refl

  pub passed_all : passed_to c 64 ≡ workings_of c 64
  unfolding passed_to
  passed_all = append-nil (workings_of c 64)
