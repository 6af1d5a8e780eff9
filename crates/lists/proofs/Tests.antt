-- Case analysis on a test, and two comparisons that say the same.
-- Assumes nothing.
use Rattle.std.proofs.Common.{◌≡◌, refl, Bool, true, false, ℕ, ◌≤◌, lt_of_not-le, not-le_of_lt, leb, leb-true, leb-false, le-leb}
use Rattle.std.proofs.lemmas.Bool.{lt-leb}

-- what holds where a test is passed and where it is failed holds of the test
pub cases : (P : Bool → Type 0) (b : Bool) → (b ≡ true → P true) → (b ≡ false → P false) → P b
cases P true passed failed = passed refl
cases P false passed failed = failed refl

pub same_test : (a b c d : ℕ) → (a ≤ b → c ≤ d) → (c ≤ d → a ≤ b) → leb a b ≡ leb c d
same_test a b c d f g =
    cases (λ (t : Bool). leb a b ≡ t) (leb c d) (λ e. le-leb a b (g (leb-true c d e)))
    (λ e. lt-leb a b (lt_of_not-le (λ h. not-le_of_lt (leb-false c d e) (f h))))
