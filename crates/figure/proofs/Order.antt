-- The lines of a reached column are in floor order: entering refuses a line above the last one.
-- Assumes nothing.
use Rattle.std.proofs.Common.{◌≡◌, refl, List, [], ◌∷◌, ◌++◌, ℕ, ◌+◌, ◌≤◌, le_trans, arith, length}
use Rattle.std.proofs.Math.Path.{subst⁻¹}
use Rattle.lists.specs.Lists.{All, none, more}
use Rattle.lists.proofs.Lists.{all_first, all_rest, all_back, all_front, all_more, all_so}
use Rattle.column.specs.declared.Line.{Line}
use Rattle.column.specs.declared.Member.{Member}
use Rattle.column.specs.declared.Column.{Column}
use Rattle.column.specs.Accepted.{last_floor, entry_number, accepted}
use Rattle.column.specs.Column.{lines_of, Reached}
use Rattle.column.proofs.Columns.{column_lines}
use Rattle.column.proofs.Reach.{not_above, accepted_all, accepted_holdable, reached_column}
use Rattle.figure.specs.Carried.{floors_of}
use Rattle.figure.specs.inner.Totals.{DownTo, NotAbove, Ordered, empty, first}
use Rattle.figure.proofs.Carried.{Other, floors_run, floors_again}

pub ordered_rest : {l : Line} {ls : List Line} → Ordered (l ∷ ls) → Ordered ls
ordered_rest (first a o) = o

pub ordered_first : {l : Line} {ls : List Line} → Ordered (l ∷ ls) → All (NotAbove l.floor) ls
ordered_first (first a o) = a

-- the first lines are in order
pub ordered_front : (ls ks : List Line) → Ordered (ls ++ ks) → Ordered ls
ordered_front [] ks o = empty
ordered_front (l ∷ ls) ks o = first (all_front ls ks (ordered_first o)) (ordered_front ls ks (ordered_rest o))

-- and so are the last ones
pub ordered_back : (ls : List Line) {ks : List Line} → Ordered (ls ++ ks) → Ordered ks
ordered_back [] o = o
ordered_back (l ∷ ls) o = ordered_back ls (ordered_rest o)

-- of lines in order those before a line are not below it, and those after it not above
module _ (l : Line) (ks : List Line) where
  pub ordered_before : (ls : List Line) → Ordered (ls ++ (l ∷ ks)) → All (DownTo l.floor) ls
  ordered_before [] o = none
  ordered_before (k ∷ ls) o = more (all_first {P = NotAbove k.floor} (all_back ls (ordered_first o))) (ordered_before ls (ordered_rest o))

  pub ordered_after : (ls : List Line) → Ordered (ls ++ (l ∷ ks)) → All (NotAbove l.floor) ks
  ordered_after [] o = ordered_first o
  ordered_after (k ∷ ls) o = ordered_after ls (ordered_rest o)

ordered_more : (ls : List Line) (l : Line) → Ordered ls → All (DownTo l.floor) ls → Ordered (ls ++ (l ∷ []))
ordered_more [] l o b = first none empty
ordered_more (k ∷ ls) l o b =
    first (all_more (ordered_first o) (all_first {P = DownTo l.floor} b)) (ordered_more ls l (ordered_rest o) (all_rest b))

-- no line of lines in order is below the last
pub last_lowest : {ls : List Line} → Ordered ls → All (DownTo (last_floor ls)) ls
unfolding last_floor
last_lowest empty = none
last_lowest (first {l} none o) = more {x = l} (omega arith) none
last_lowest (first {l} (more {x} {xs} q a) o) = more {x = l} (le_trans q (all_first {P = DownTo (last_floor (x ∷ xs))} (last_lowest o))) (last_lowest o)

-- one line more has the floor of the last one, or a new one
last_down : {f : ℕ} {ls : List Line} → All (DownTo f) ls → last_floor ls ≤ f
unfolding last_floor
last_down none = omega arith
last_down (more q none) = q
last_down (more q (more {x} p a)) = last_down (more {x = x} p a)

pub floors_same : (ls : List Line) (l : Line) → 1 ≤ l.floor → l.floor ≡ last_floor ls → floors_of (ls ++ (l ∷ [])) ≡ floors_of ls
unfolding last_floor
floors_same [] l h e = absurd (omega (arith, e))
floors_same (k ∷ ls) l h e = floors_again k ls l e

pub floors_new : (ls : List Line) (l : Line) → Ordered (ls ++ (l ∷ [])) → (l.floor ≡ last_floor ls → ⊥) → floors_of (ls ++ (l ∷ [])) ≡ floors_of ls + 1
floors_new ls l o new =
    let above = last_lowest (ordered_front ls (l ∷ []) o) in
    let low = last_down (ordered_before l [] ls o) in
    floors_run l.floor (all_so {P = DownTo (last_floor ls)} {Q = Other l.floor} (λ k q e. new (omega arith)) above) l refl none

accepted_ordered : (m : Member) (es : List Line) → Ordered (accepted m es)
unfolding entry_number
accepted_ordered m es = accepted_all m Ordered more_of [] es empty
  where
    more_of : (ls : List Line) (l : Line) → Ordered ls → entry_number m ls l ≡ 0 → Ordered (ls ++ (l ∷ []))
    more_of ls l o e =
        let low : last_floor ls ≤ l.floor = not_above m (length ls) (last_floor ls) l e in
        ordered_more ls l o (all_so {P = DownTo (last_floor ls)} (λ k q. le_trans q low) (last_lowest o))

-- the lines of a reached column are in order
pub reached_ordered : {c : Column} → Reached c → Ordered (lines_of c)
reached_ordered r =
    let m = r.member in
    subst⁻¹ (λ (d : Column). Ordered (lines_of d)) (reached_column r)
    (subst⁻¹ Ordered (column_lines m (accepted m r.entries) (accepted_holdable m r.entries).lines) (accepted_ordered m r.entries))
