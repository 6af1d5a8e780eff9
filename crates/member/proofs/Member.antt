-- Laws of the factor K.
-- Assumes nothing.
use Rattle.std.proofs.Common.{◌≡◌, refl, ◌∙◌, ap, Bool, true, ◌&&◌, List, [], ◌∷◌, ℕ, zero, suc, ◌-◌, ◌≤◌, arith, leb, get_or, leb-true}
use Rattle.std.proofs.lemmas.Bool.{and_parts}
use Rattle.std.specs.Prelude.{Result, Ok, Err}
use Rattle.refusal.specs.declared.Refusal.{Refusal}
use Rattle.refusal.specs.Said.{gives, said}
use Rattle.refusal.proofs.Said.{gives_it, gives_not_refused}
use Rattle.member.specs.Between.{between}
use Rattle.member.specs.Member.{table4_2, table_factor, factor_of}

-- a code 1 to 12 has its factor
pub factor_known : (code : ℕ) → between 1 12 code ≡ true → factor_of code ≡ gives (table_factor code)
unfolding factor_of
factor_known code e = rw e

-- a row of a table of which all rows are at most m
most : ℕ → List ℕ → Bool
most m [] = true
most m (k ∷ ks) = leb k m && most m ks

row_most : (m : ℕ) (ks : List ℕ) (n : ℕ) → most m ks ≡ true → get_or ks n 0 ≤ m
unfolding most
row_most m [] n e = omega arith
row_most m (k ∷ ks) zero e = leb-true k m (and_parts (leb k m) (most m ks) e).0
row_most m (k ∷ ks) (suc n) e = row_most m ks n (and_parts (leb k m) (most m ks) e).1

-- no factor is above 4
pub factor_most : (code : ℕ) → table_factor code ≤ 4
unfolding table_factor table4_2 most
factor_most code = row_most 4 (0 ∷ table4_2) code refl

-- K of a code stands in the row before it, counted from 0
pub table_row : (code : ℕ) → 1 ≤ code → get_or table4_2 (code - 1) 0 ≡ table_factor code
unfolding table_factor
table_row zero h = absurd (omega arith)
table_row (suc n) h = ap (λ (k : ℕ). get_or table4_2 k 0) (omega arith)

-- K of a code 1 to 12 stands in the row before it, counted from 0
pub factor_row : (code : ℕ) → between 1 12 code ≡ true → gives (get_or table4_2 (code - 1) 0) ≡ factor_of code
unfolding factor_of table_factor
factor_row zero h = cc
factor_row (suc n) h = rw h (ap (λ (k : ℕ). gives (get_or table4_2 k 0)) (omega arith))

-- the answer to a code 1 to 12 gives its factor, and is no refusal
module _ (code : ℕ) (ok : between 1 12 code ≡ true) {a : Result ℕ Refusal} (asked : said a ≡ factor_of code) where
  pub factor_given : {k : ℕ} → a ≡ Ok k → (k ≡ table_factor code) × (k ≤ 4)
  factor_given e =
      let is = gives_it e (asked ∙ factor_known code ok) in
      (is, rw is (factor_most code))

  pub factor_not_refused : {q : Refusal} → a ≡ Err q → ⊥
  factor_not_refused e = gives_not_refused e (asked ∙ factor_known code ok)
