-- The search finds a number that passes its test, and none before it does.
-- Assumes nothing.
use Rattle.std.proofs.Common.{◌≡◌, refl, Bool, true, false, ⊎_elim, ℕ, zero, suc, ◌+◌, ◌≤◌, ◌<◌, add-zero, add-suc, suc-add, eq-or-lt_of_le, arith}
use Rattle.reduction.specs.Least.{least_from}

found_go : (p : ℕ → Bool) (k d : ℕ) (b : Bool) → p k ≡ b → p (least_from p (suc k) d) ≡ true
    → p (elim b [ true ↦ k | false ↦ least_from p (suc k) d ]) ≡ true
found_go p k d true e f = e
found_go p k d false e f = f

-- where the last number looked at passes, the search finds one that does
pub found : (p : ℕ → Bool) (k d : ℕ) → p (k + d) ≡ true → p (least_from p k d) ≡ true
unfolding least_from
found p k zero h = rw (add-zero k) at h
found p k (suc d) h = found_go p k d (p k) refl (found p (suc k) d (rw (add-suc k d, ← suc-add k d) at h))

none_go : (p : ℕ → Bool) (k d j : ℕ) (b : Bool) → p k ≡ b → k ≤ j
    → j < elim b [ true ↦ k | false ↦ least_from p (suc k) d ]
    → (suc k ≤ j → j < least_from p (suc k) d → p j ≡ false) → p j ≡ false
none_go p k d j true e lo hi f = absurd (omega arith)
none_go p k d j false e lo hi f =
    ⊎_elim (λ (q : k ≡ j). rw (← q) e) (λ (q : k < j). f q hi) (eq-or-lt_of_le lo)

-- no number before the one found passes
pub none : (p : ℕ → Bool) (k d j : ℕ) → k ≤ j → j < least_from p k d → p j ≡ false
unfolding least_from
none p k zero j lo hi = absurd (omega arith)
none p k (suc d) j lo hi = none_go p k d j (p k) refl lo hi (none p (suc k) d j)
