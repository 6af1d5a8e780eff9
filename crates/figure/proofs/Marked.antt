-- Floors marked as they are found: what is known of the marks, and one line more.
-- Assumes nothing.
use Rattle.std.proofs.Common.{◌≡◌, refl, sym, ◌∙◌, arith, ℕ, ◌+◌, ◌≤◌, ◌<◌, Bool, true, false, cond, eqb, List, [], ◌∷◌, ◌++◌, length, get_or, set, replicate, length-set, ◌||◌, add_comm, get_or-set_same, get_or-set_other, eqb-true}
use mathlib.Core.List.Permᴰ
use Rattle.std.proofs.lemmas.Bool.{eqb-false}
use Rattle.std.proofs.lemmas.List.{get_or-replicate, length-replicate}
use Rattle.lists.specs.Lists.{some}
use Rattle.lists.specs.theorems.Orders.{Permuted}
use Rattle.lists.proofs.Tests.{cases}
use Rattle.column.specs.declared.Line.{Line}
use Rattle.figure.specs.Carried.{has_floor, floors_of}
use Rattle.figure.proofs.Permuted.{has_permuted, floors_permuted}

-- what was found of some lines: how many floors they have, with a mark at each
pub record Found (ls : List Line) (seen : List Bool) (n : ℕ) : Type 0 where
  pub distinct : n ≡ floors_of ls
  pub size : length seen ≡ 65
  pub marks : (k : ℕ) → k < 65 → get_or seen k false ≡ has_floor k ls

pub found_none : Found [] (replicate 65 false) 0
unfolding floors_of has_floor some
found_none = record { distinct = refl; size = length-replicate 65 false; marks = λ k h. get_or-replicate 65 k false false h }

-- one line more before the others: a mark says whether its floor is new
pub found_first : {ls : List Line} {seen : List Bool} {n : ℕ} (l : Line) → l.floor ≤ 64 → Found ls seen n
    → Found (l ∷ ls) (set seen l.floor true) (n + cond (get_or seen l.floor false) 0 1)
unfolding floors_of has_floor some
found_first {ls} {seen} {n} l h c =
    record {
      distinct = rw (c.marks l.floor (omega arith), c.distinct) (add_comm (floors_of ls) _);
      size = length-set seen l.floor true ∙ c.size;
      marks = λ k q.
          cases (λ (b : Bool). get_or (set seen l.floor true) k false ≡ (b || has_floor k ls)) (eqb l.floor k)
          (λ e. rw (← eqb-true l.floor k e) (get_or-set_same seen l.floor true false (omega (arith, c.size))))
          (λ e. get_or-set_other seen l.floor k true false (λ w. eqb-false l.floor k e (sym w)) ∙ c.marks k q);
    }

-- and after the others
last_first : (l : Line) (ls : List Line) → Permuted (l ∷ ls) (ls ++ (l ∷ []))
last_first l [] = Permᴰ.cons refl Permᴰ.nil
last_first l (k ∷ ls) = Permᴰ.trans (Permᴰ.swap refl refl) (Permᴰ.cons refl (last_first l ls))

pub found_more : {ls : List Line} {seen : List Bool} {n : ℕ} (l : Line) → l.floor ≤ 64 → Found ls seen n
    → Found (ls ++ (l ∷ [])) (set seen l.floor true) (n + cond (get_or seen l.floor false) 0 1)
found_more {ls} {seen} {n} l h c =
    let first = found_first l h c in
    let same = last_first l ls in
    record {
      distinct = first.distinct ∙ floors_permuted same;
      size = first.size;
      marks = λ k q. first.marks k q ∙ has_permuted k same;
    }
