-- The digits that the library writes are those of the definition.
-- Assumes nothing.
use Rattle.std.proofs.Common.{◌≡◌, refl, sym, ◌∙◌, ap, Bool, true, false, List, [], ◌∷◌, ◌++◌, ℕ, zero, suc, ◌+◌, ◌/◌, ◌%◌, ◌^◌, ◌≤◌, ◌<◌, arith, ltb, ltb-true, ltb-false}
use Rattle.std.specs.Fmt.{decimal as written}
use Rattle.std.proofs.lemmas.Fmt.{decimal_digit, decimal_step}
use Rattle.text.specs.Text.{decimal}
use Rattle.text.proofs.Decimal.{decimal_small, decimal_more}

-- by the digits of a tenth, with room for so many steps
same : (k n : ℕ) → n ≤ k → n < 2 ^ 64 → written n ≡ decimal n
same zero n h m = decimal_digit n (omega arith) ∙ sym (decimal_small n (omega arith))
same (suc k) n h m = go (ltb n 10) refl (same k (n / 10))
  where
    go : (t : Bool) → ltb n 10 ≡ t → (n / 10 ≤ k → n / 10 < 2 ^ 64 → written (n / 10) ≡ decimal (n / 10)) → written n ≡ decimal n
    go true e f = decimal_digit n (ltb-true n 10 e) ∙ sym (decimal_small n (ltb-true n 10 e))
    go false e f = let big : 10 ≤ n = ltb-false n 10 e in rw (decimal_more n big) (decimal_step n big m ∙ ap (λ (ds : List ℕ). ds ++ ((48 + n % 10) ∷ [])) (f (omega arith) (omega arith)))

-- a number of 64 bits is written as its decimal digits
pub written_decimal : (n : ℕ) → n < 2 ^ 64 → written n ≡ decimal n
written_decimal n m = same n n (omega arith) m
