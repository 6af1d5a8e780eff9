-- What is carried of some lines, which floors they have, and the formula lines' area.
-- Assumes nothing.
use Rattle.std.proofs.Common.{◌≡◌, refl, sym, ◌∙◌, ap, Bool, true, false, cond, ◌||◌, List, [], ◌∷◌, ◌++◌, map, length, get_or, ℕ, zero, suc, ◌+◌, ◌≤◌, ◌<◌, lt_of_not-le, arith, leb, eqb, leb-false, le-leb, eq-eqb, ne_eqb}
use Rattle.std.proofs.Math.Bool.{or-true, or_self_left}
use Rattle.std.proofs.Math.Decide.{dec_le}
use Rattle.std.proofs.lemmas.Bool.{false≢true, lt-leb}
use Rattle.column.specs.Line.{unpacked}
use Rattle.lists.specs.Lists.{All, none, more, keep, some, total}
use Rattle.lists.proofs.Tests.{cases}
use Rattle.lists.proofs.Lists.{keep_passed, keep_failed, total_keep, all_so}
use Rattle.column.specs.declared.Line.{Line}
use Rattle.column.specs.Accepted.{last_floor}
use Rattle.figure.specs.Carried.{is_formula_line, formula_lines, carried, has_floor, floors_of, area_of}
use Rattle.figure.specs.inner.Totals.{formula_area, At, DownTo, Below}

-- a line of which the floor is at most f is carried at f, and no other
carry : (f : ℕ) (l : Line) (ls : List Line) → l.floor ≤ f → carried f (l ∷ ls) ≡ l ∷ carried f ls
unfolding carried
carry f l ls h = keep_passed _ l ls (le-leb l.floor f h)

leave : (f : ℕ) (l : Line) (ls : List Line) → f < l.floor → carried f (l ∷ ls) ≡ carried f ls
unfolding carried
leave f l ls h = keep_failed _ l ls (lt-leb l.floor f h)

-- of lines down to a floor, and lines below it, the first are carried there
pub carried_front : (f : ℕ) {ls ks : List Line} → All (DownTo f) ls → All (Below f) ks → carried f (ls ++ ks) ≡ ls
unfolding carried keep
carried_front f none none = refl
carried_front f none (more {x} {xs} q b) = leave f x xs q ∙ carried_front f none b
carried_front f {ks = ks} (more {x} {xs} q a) b = carry f x (xs ++ ks) q ∙ ap (λ (l : List Line). x ∷ l) (carried_front f a b)

-- a line that has the floor is carried there, and further down
has_down : (f k : ℕ) → f ≤ k → (ls : List Line) → has_floor f (carried k ls) ≡ has_floor f ls
unfolding carried has_floor keep some
has_down f k h [] = refl
has_down f k h (l ∷ ls) =
    cases (λ (b : Bool). has_floor f (cond b (l ∷ carried k ls) (carried k ls)) ≡ (eqb l.floor f || has_floor f ls)) (leb l.floor k)
    (λ e. ap (λ (b : Bool). eqb l.floor f || b) (has_down f k h ls))
    (λ e. rw (ne_eqb l.floor f (λ w. omega (arith, leb-false l.floor k e))) (has_down f k h ls))

pub has_carried : (f : ℕ) (ls : List Line) → has_floor f (carried f ls) ≡ has_floor f ls
has_carried f = has_down f f (omega arith)

-- where a line has the floor there is a line
pub has_some : (P : List Line → Type 0) (f : ℕ) (ls : List Line) → has_floor f ls ≡ true → ((l : Line) (ks : List Line) → P (l ∷ ks)) → P ls
unfolding has_floor some
has_some P f [] h k = absurd (false≢true h)
has_some P f (l ∷ ls) h k = k l ls

-- no line has a floor that each line's differs from
abbrev pub Other : ℕ → Line → Type 0
Other f l = l.floor ≡ f → ⊥

pub has_none : (f : ℕ) {ls : List Line} → All (Other f) ls → has_floor f ls ≡ false
unfolding has_floor some
has_none f none = refl
has_none f (more {x} q a) = rw (ne_eqb x.floor f q) (has_none f a)

-- so lines that have not the floor may be left out
has_front : (f : ℕ) (ls : List Line) {ks : List Line} → All (Other f) ks → has_floor f (ls ++ ks) ≡ has_floor f ls
unfolding has_floor some
has_front f [] a = has_none f a
has_front f (l ∷ ls) a = ap (λ (b : Bool). eqb l.floor f || b) (has_front f ls a)

-- the floor of one of the lines
pub has_in : (ls : List Line) (l : Line) (ks : List Line) → has_floor l.floor (ls ++ (l ∷ ks)) ≡ true
unfolding has_floor some
has_in [] l ks = rw (eq-eqb l.floor l.floor refl)
has_in (k ∷ ls) l ks = rw (has_in ls l ks) (or-true (eqb k.floor l.floor))

-- the floor of a line at a place
pub has_at : (f : ℕ) (ns : List ℕ) (k d : ℕ) → k < length ns → (unpacked (get_or ns k d)).floor ≡ f → has_floor f (map unpacked ns) ≡ true
unfolding has_floor some
has_at f [] k d h e = absurd (omega arith)
has_at f (n ∷ ns) zero d h e = rw (eq-eqb (unpacked n).floor f e)
has_at f (n ∷ ns) (suc k) d h e = rw (has_at f ns k d (omega arith) e) (or-true (eqb (unpacked n).floor f))

-- lines of one floor have one, and are one more where no line before them has it
one_floor_lem : (f : ℕ) (l : Line) {ks : List Line} → l.floor ≡ f → All (At f) ks → floors_of (l ∷ ks) ≡ 1
unfolding floors_of has_floor some
one_floor_lem f l e none = refl
one_floor_lem f l e (more {x} {xs} q a) = rw (eq-eqb x.floor l.floor (q ∙ sym e)) (omega (arith, one_floor_lem f x q a))

pub floors_run : (f : ℕ) {ls : List Line} → All (Other f) ls → (l : Line) {ks : List Line} → l.floor ≡ f → All (At f) ks
    → floors_of (ls ++ (l ∷ ks)) ≡ floors_of ls + 1
unfolding floors_of
floors_run f none l e a = one_floor_lem f l e a
floors_run f (more {x} {xs} q h) l {ks} e a =
    let others : All (Other x.floor) (l ∷ ks) = all_so {P = At f} {Q = Other x.floor} (λ k p r. q (sym r ∙ p)) (more e a) in
    rw (has_front x.floor xs others) (omega (arith, floors_run f h l e a))

-- a line more with the floor of the last one adds no floor
has_again : (f : ℕ) (k : Line) (ls : List Line) (l : Line) → l.floor ≡ last_floor (k ∷ ls) → has_floor f ((k ∷ ls) ++ (l ∷ [])) ≡ has_floor f (k ∷ ls)
unfolding has_floor some last_floor
has_again f k [] l e = rw e (or_self_left (eqb k.floor f) false)
has_again f k (j ∷ ls) l e = ap (λ (b : Bool). eqb k.floor f || b) (has_again f j ls l e)

pub floors_again : (k : Line) (ls : List Line) (l : Line) → l.floor ≡ last_floor (k ∷ ls) → floors_of ((k ∷ ls) ++ (l ∷ [])) ≡ floors_of (k ∷ ls)
unfolding floors_of has_floor some last_floor
floors_again k [] l e = one_floor_lem k.floor k refl (more {x = l} e none)
floors_again k (j ∷ ls) l e = rw (has_again k.floor j ls l e, floors_again j ls l e)

-- so where the last two are given
has_twice : (f : ℕ) (ls : List Line) (k l : Line) → l.floor ≡ k.floor → has_floor f (ls ++ (k ∷ (l ∷ []))) ≡ has_floor f (ls ++ (k ∷ []))
unfolding has_floor some
has_twice f [] k l e = rw e (or_self_left (eqb k.floor f) false)
has_twice f (j ∷ ls) k l e = ap (λ (b : Bool). eqb j.floor f || b) (has_twice f ls k l e)

pub floors_twice : (ls : List Line) (k l : Line) → l.floor ≡ k.floor → floors_of (ls ++ (k ∷ (l ∷ []))) ≡ floors_of (ls ++ (k ∷ []))
unfolding floors_of has_floor some
floors_twice [] k l e = one_floor_lem k.floor k refl (more {x = l} e none)
floors_twice (j ∷ ls) k l e = rw (has_twice j.floor ls k l e, floors_twice ls k l e)

-- one floor further down is at most one floor more: a line is carried above it, is at it, or is below it
one_or_none : (b : Bool) → (◌≡◌ {A = ℕ} (cond b 0 1 + cond b 1 0) 1) × (cond b 1 0 ≤ 1)
one_or_none true = (refl, omega arith)
one_or_none false = (refl, omega arith)

abbrev Next : ℕ → List Line → Type 0
Next k ls = floors_of (carried (suc k) ls) ≤ floors_of (carried k ls) + cond (has_floor (suc k) ls) 1 0

next_above : (k : ℕ) (l : Line) (ls : List Line) → l.floor ≤ k → Next k ls → Next k (l ∷ ls)
unfolding floors_of has_floor some
next_above k l ls p h =
    rw (carry (suc k) l ls (omega arith), carry k l ls p, has_down l.floor (suc k) (omega arith) ls, has_down l.floor k p ls, ne_eqb l.floor (suc k) (λ e. omega arith))
    (omega (arith, h))

next_at : (k : ℕ) (l : Line) (ls : List Line) → l.floor ≡ suc k → Next k ls → Next k (l ∷ ls)
unfolding floors_of has_floor some
next_at k l ls e h =
    let same : ◌≡◌ {A = ℕ} (cond (has_floor l.floor ls) 0 1) (cond (has_floor (suc k) ls) 0 1) = ap (λ (f : ℕ). cond {A = ℕ} (has_floor f ls) 0 1) e in
    rw (carry (suc k) l ls (omega arith), leave k l ls (omega arith), has_down l.floor (suc k) (omega arith) ls, eq-eqb l.floor (suc k) e)
    (omega (arith, h, same, (one_or_none (has_floor (suc k) ls)).0))

next_below : (k : ℕ) (l : Line) (ls : List Line) → suc k < l.floor → Next k ls → Next k (l ∷ ls)
unfolding has_floor some
next_below k l ls p h =
    rw (leave (suc k) l ls p, leave k l ls (omega arith), ne_eqb l.floor (suc k) (λ e. omega arith)) h

floors_next : (k : ℕ) (ls : List Line) → Next k ls
unfolding carried floors_of keep
floors_next k [] = omega arith
floors_next k (l ∷ ls) =
    let h = floors_next k ls in
    elim (dec_le l.floor k) [
      | yes p ↦ next_above k l ls p h
      | no n ↦
          elim (dec_le l.floor (suc k)) [
            | yes p ↦ next_at k l ls (omega (arith, lt_of_not-le n)) h
            | no m ↦ next_below k l ls (lt_of_not-le m) h
          ]
    ]

-- so lines down to floor k, of which none is above floor 1, have at most k floors
pub floors_down : (k : ℕ) {ls : List Line} → All (Below 0) ls → floors_of (carried k ls) ≤ k
unfolding floors_of
floors_down zero a = rw (carried_front 0 none a) (omega arith)
floors_down (suc k) {ls} a = omega (arith, floors_next k ls, floors_down k a, (one_or_none (has_floor (suc k) ls)).1)

-- the formula lines' area is the sum of what each line adds to it
pub area_total : (ls : List Line) → area_of (formula_lines ls) ≡ total formula_area ls
unfolding area_of formula_lines keep total formula_area
area_total [] = refl
area_total (l ∷ ls) = rw (← area_total ls) (total_keep _ is_formula_line l ls)
