-- `find` over a range from its end down, said of the numbers in it.
-- Assumes nothing.
use Rattle.std.proofs.Common.{⊎_elim, eq-or-lt_of_le, ◌≡◌, refl, sym, ◌∙◌, ap, subst, Bool, true, false, List, [], ◌∷◌, ℕ, ◌+◌, ◌-◌, ◌≤◌, ◌<◌, arith, Bor}
use denote.Param.Members.{Mut}
use Rattle.std.specs.Prelude.{Option, None, Some, MatchOption, IfSome}
use Rattle.std.specs.declared.ops.Range.{Range}
use Rattle.std.specs.declared.iter.Rev.{Rev}
use Rattle.std.specs.Iterator.{YieldsThen}
use Rattle.std.specs.Iterator.Adapters.{rev_source}
use Rattle.std.specs.List.{FoldsTo}
use Rattle.std.specs.Fn.{CalledAt}
use Rattle.std.specs.Range.{range_steps_back}

abbrev steps : Rev (Range ℕ) → Option ℕ → Rev (Range ℕ) → Type 0
steps s r t = range_steps_back (λ x y. y - x) (λ x y. y ≡ x + 1) s.iter r t.iter

module _ {F : Type 0} {g : Mut F (Bor ℕ × Unit {0}) Bool} (Yes No : ℕ → Type 0) (f : F)
    (yes' : (x : ℕ) (q : F) → CalledAt g f x true q → Yes x) (no' : (x : ℕ) (q : F) → CalledAt g f x false q → (q ≡ f) × No x) where
  down : (xs : List ℕ) (s u : Rev (Range ℕ)) (e j : F) (r : Option ℕ) → e ≡ f → YieldsThen steps s xs r u
      → FoldsTo (λ p x q. CalledAt g p x false q) e xs j → IfSome r (λ x. (h : F) × CalledAt g j x true h)
      → MatchOption r ((k : ℕ) → s.iter.start ≤ k → k < s.iter.end → No k)
      (λ i. (i < s.iter.end) × Yes i × ((k : ℕ) → i < k → k < s.iter.end → No k))
  down [] s u e j None same (t, y, z) folds last = λ k lo hi. absurd (omega (arith, z.1.0, ap (λ (v : Rev (Range ℕ)). v.iter.start) y, ap (λ (v : Rev (Range ℕ)). v.iter.end) y))
  down [] s u e j (Some x) same (t, y, z) folds last =
      let start : s.iter.start ≡ t.iter.start = ap (λ (v : Rev (Range ℕ)). v.iter.start) y in
      let end : s.iter.end ≡ t.iter.end = ap (λ (v : Rev (Range ℕ)). v.iter.end) y in
      let passed : CalledAt g f x true last.0 = subst (λ (v : F). CalledAt g v x true last.0) (sym folds ∙ same) last.1 in
      (omega (arith, z.1, end), yes' x last.0 passed, λ k lo hi. absurd (omega (arith, z.1, end)))
  down (x ∷ xs) s u e j r same (t, (m, step, y), z) (q, call, folds) last =
      let left = no' x q (subst (λ (v : F). CalledAt g v x false q) same call) in
      more r left.1 (down xs m u q j r left.0 (t, y, z) folds last)
    where
      all : No x → (k : ℕ) → k < s.iter.end → (k < m.iter.end → No k) → No k
      all n k hi h = ⊎_elim (λ (q : k ≡ m.iter.end). subst No (step.1.1 ∙ sym q) n) h (eq-or-lt_of_le (omega (arith, step.1.2)))

      more : (o : Option ℕ) → No x
          → MatchOption o ((k : ℕ) → m.iter.start ≤ k → k < m.iter.end → No k) (λ i. (i < m.iter.end) × Yes i × ((k : ℕ) → i < k → k < m.iter.end → No k))
          → MatchOption o ((k : ℕ) → s.iter.start ≤ k → k < s.iter.end → No k) (λ i. (i < s.iter.end) × Yes i × ((k : ℕ) → i < k → k < s.iter.end → No k))
      more None n h = λ k lo hi. all n k hi (h k (omega (arith, step.0)))
      more (Some i) n h = (omega (arith, h.0, step.1.2), h.1, λ k lo hi. all n k hi (h.2 k lo))

  -- what `find` gives, going down: the last number that passes, after which none does
  pub last_from_Range : (s u : Rev (Range ℕ)) (b : ℕ) (r : Option ℕ) → rev_source s ≡ record { start = 0; end = b }
      → (xs : List ℕ) × (j : F) × YieldsThen steps s xs r u × FoldsTo (λ p x q. CalledAt g p x false q) f xs j × IfSome r (λ x. (h : F) × CalledAt g j x true h)
      → MatchOption r ((k : ℕ) → k < b → No k) (λ i. (i < b) × Yes i × ((k : ℕ) → i < k → k < b → No k))
  last_from_Range s u b r is (xs, j, gave, folds, last) = whole r (down xs s u f j r refl gave folds last)
    where
      start : s.iter.start ≡ 0
      start = ap (λ (v : Range ℕ). v.start) is

      end : s.iter.end ≡ b
      end = ap (λ (v : Range ℕ). v.end) is

      whole : (o : Option ℕ) → MatchOption o ((k : ℕ) → s.iter.start ≤ k → k < s.iter.end → No k) (λ i. (i < s.iter.end) × Yes i × ((k : ℕ) → i < k → k < s.iter.end → No k))
          → MatchOption o ((k : ℕ) → k < b → No k) (λ i. (i < b) × Yes i × ((k : ℕ) → i < k → k < b → No k))
      whole None h = λ k hi. h k (omega (arith, start)) (omega (arith, end))
      whole (Some i) h = (omega (arith, h.0, end), h.1, λ k lo hi. h.2 k lo (omega (arith, end)))
