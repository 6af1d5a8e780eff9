-- A column that opening and entering gave: it is the column of the accepted lines, and they are within their limits.
-- Assumes nothing.
use Rattle.std.proofs.Common.{◌≡◌, refl, sym, ◌∙◌, ap, Bool, true, false, cond, not, ◌||◌, List, [], ◌∷◌, ◌++◌, ℕ, ◌+◌, ◌≤◌, ◌<◌, arith, Result, Ok, leb, ltb, eqb, length, length-append, leb-false, ltb-false, eqb-true, ne_eqb}
use Rattle.std.proofs.Math.Path.{subst⁻¹}
use Rattle.std.proofs.lemmas.Bool.{false≢true, not-false}
use Rattle.member.specs.Between.{between}
use Rattle.lists.specs.Lists.{All, none}
use Rattle.member.proofs.Tests.{limits}
use Rattle.refusal.specs.declared.Refusal.{Refusal}
use Rattle.column.specs.declared.Line.{Line}
use Rattle.column.specs.declared.Member.{Member}
use Rattle.column.specs.declared.Column.{Column}
use Rattle.column.specs.Accepted.{last_floor, first_condition, entry_number, joined, accepted_from, accepted}
use Rattle.column.specs.Column.{Outcome, lines_of, column_of, unopened, opened_of, opened_as, entered_of, after, Reached}
use Rattle.column.specs.inner.Sound.{InLimits, Sound}
use Rattle.column.specs.theorems.InTurn.{Holdable}
use Rattle.lists.proofs.Lists.{all_more}
use Rattle.lists.proofs.Tests.{cases}
use Rattle.column.proofs.Columns.{column_lines, column_size, more_lines}
use Rattle.column.proofs.Lines.{lines_length, last_more}

-- where the number is 0, a condition that has a number does not hold, and the number of the later ones is 0
passed : (b : Bool) (n later : ℕ) → 1 ≤ n → cond b n later ≡ 0 → (b ≡ false) × (later ≡ 0)
passed true n later h e = absurd (omega arith)
passed false n later h e = (refl, e)

first_not : (a b : Bool) → (not a || b) ≡ false → a ≡ true
first_not true b h = refl
first_not false b h = absurd (false≢true (sym h))

-- a line for which no condition holds is within its limits, and there is room for it
pub no_condition : (m : Member) (count last : ℕ) (l : Line) → first_condition m count last l ≡ 0 → (count < 256) × InLimits l
unfolding first_condition
no_condition m count last l h =
    let full = passed (leb 256 count) 2 _ (omega arith) h in
    let floor = passed (not (between 1 64 l.floor) || ltb l.floor last) 3 _ (omega arith) full.1 in
    let class = passed (not (between 1 3 l.class)) 4 _ (omega arith) floor.1 in
    let load = passed (not (between 1 50000 l.load)) 5 _ (omega arith) class.1 in
    let area = passed (not (between 1 200000 l.area.0)) 6 _ (omega arith) load.1 in (
      leb-false 256 count full.0,
      record {
        floor = limits 1 64 l.floor (first_not (between 1 64 l.floor) (ltb l.floor last) floor.0);
        class = limits 1 3 l.class (not-false _ class.0);
        load = limits 1 50000 l.load (not-false _ load.0);
        area = limits 1 200000 l.area.0 (not-false _ area.0);
      },
    )

second_not : (a b : Bool) → (a || b) ≡ false → b ≡ false
second_not true b h = absurd (false≢true (sym h))
second_not false b h = h

-- and it is not above the last one
pub not_above : (m : Member) (count last : ℕ) (l : Line) → first_condition m count last l ≡ 0 → last ≤ l.floor
unfolding first_condition
not_above m count last l h =
    let full = passed (leb 256 count) 2 _ (omega arith) h in
    let floor = passed (not (between 1 64 l.floor) || ltb l.floor last) 3 _ (omega arith) full.1 in
    ltb-false l.floor last (second_not (not (between 1 64 l.floor)) (ltb l.floor last) floor.0)

-- what stays true of some lines when one more joins them that is accepted after them
module _ (m : Member) (P : List Line → Type 0) (step : (ls : List Line) (l : Line) → P ls → entry_number m ls l ≡ 0 → P (ls ++ (l ∷ []))) where
  joined_all : (ls : List Line) (l : Line) → P ls → P (joined m ls l)
  unfolding joined
  joined_all ls l h =
      cases (λ (b : Bool). P (cond b (ls ++ (l ∷ [])) ls)) (eqb (entry_number m ls l) 0) (λ e. step ls l h (eqb-true (entry_number m ls l) 0 e)) (λ e. h)

  -- it is true of the accepted lines, where it is of those that there were
  pub accepted_all : (ls es : List Line) → P ls → P (accepted_from m ls es)
  unfolding accepted_from
  accepted_all ls [] h = h
  accepted_all ls (e ∷ es) h = accepted_all (joined m ls e) es (joined_all ls e h)

-- the accepted lines are at most 256, and each is within its limits
pub holdable_none : Holdable []
holdable_none = record { few = omega arith; lines = none }

pub holdable_more : (m : Member) (ls : List Line) (l : Line) → Holdable ls → entry_number m ls l ≡ 0 → Holdable (ls ++ (l ∷ []))
unfolding entry_number
holdable_more m ls l h e =
    let ok = no_condition m (length ls) (last_floor ls) l e in
    record { few = omega (arith, length-append ls (l ∷ []), ok.0); lines = all_more h.lines ok.1 }

pub accepted_holdable : (m : Member) (es : List Line) → Holdable (accepted m es)
accepted_holdable m es = accepted_all m Holdable (holdable_more m) [] es holdable_none

module _ (c : Column) (l : Line) where
  -- entering a line where no condition holds
  pub entered_accepted : entry_number c.member (lines_of c) l ≡ 0
      → entered_of c l ≡ record { number = 0; column = column_of c.member (lines_of c ++ (l ∷ [])) }
  unfolding entered_of
  entered_accepted e = rw e

  -- entering a line where one does
  pub entered_refused : (n : ℕ) → 1 ≤ n → entry_number c.member (lines_of c) l ≡ n → entered_of c l ≡ record { number = n; column = c }
  unfolding entered_of
  entered_refused n h e =
      let not_0 : eqb (entry_number c.member (lines_of c) l) 0 ≡ false = ap (λ (k : ℕ). eqb k 0) e ∙ ne_eqb n 0 (λ q. omega arith) in
      λ i. record { number = e i; column = cond (not_0 i) (column_of c.member (lines_of c ++ (l ∷ []))) c }

-- entering a line on the column of some lines gives its number, and the column of the lines that are then accepted
pub entered_column : (m : Member) (ls : List Line) (l : Line) → Holdable ls
    → entered_of (column_of m ls) l ≡ record { number = entry_number m ls l; column = column_of m (joined m ls l) }
unfolding entered_of joined column_of
entered_column m ls l h =
    let n = entry_number m ls l in
    let outcome : Column → Outcome = λ c. record { number = n; column = c } in
    rw (column_lines m ls h.lines)
    (cases (λ (b : Bool). outcome (cond b (column_of m (ls ++ (l ∷ []))) (column_of m ls)) ≡ outcome (column_of m (cond b (ls ++ (l ∷ [])) ls))) (eqb n 0) (λ e. refl) (λ e. refl))

-- the lines that are then accepted may be held too
pub joined_holdable : (m : Member) (ls : List Line) (l : Line) → Holdable ls → Holdable (joined m ls l)
joined_holdable m ls l h = joined_all m Holdable (holdable_more m) ls l h

after_column : (m : Member) (ls es : List Line) → Holdable ls → after (column_of m ls) es ≡ column_of m (accepted_from m ls es)
unfolding after accepted_from
after_column m ls [] h = refl
after_column m ls (e ∷ es) h =
    ap (λ (o : Outcome). after o.column es) (entered_column m ls e h) ∙ after_column m (joined m ls e) es (joined_holdable m ls e h)

module _ (m : Member) where
  opened_cases : (b : Bool) → between 1 12 m.code ≡ b → (opened_of m).number ≡ 0
      → (between 1 12 m.code ≡ true) × ((opened_of m).column ≡ column_of m [])
  unfolding opened_of
  opened_cases true e h = (e, rw e)
  opened_cases false e h = absurd (omega (arith, rw e at h))

  -- a member that was opened has a code
  pub opened_code : (opened_of m).number ≡ 0 → between 1 12 m.code ≡ true
  opened_code h = (opened_cases (between 1 12 m.code) refl h).0

  -- what opening it gave has no lines
  pub opened_column : (opened_of m).number ≡ 0 → (opened_of m).column ≡ column_of m []
  opened_column h = (opened_cases (between 1 12 m.code) refl h).1

  refused_cases : (b : Bool) → between 1 12 m.code ≡ b → 1 ≤ (opened_of m).number → ((opened_of m).number ≡ 1) × ((opened_of m).column ≡ unopened)
  unfolding opened_of
  refused_cases true e h = absurd (omega (arith, rw e at h))
  refused_cases false e h = (rw e, rw e)

  -- a refused opening has the number 1
  pub opened_number : 1 ≤ (opened_of m).number → (opened_of m).number ≡ 1
  opened_number h = (refused_cases (between 1 12 m.code) refl h).0

  -- what it gave is not the member's
  pub opened_refused : 1 ≤ (opened_of m).number → (opened_of m).column ≡ unopened
  opened_refused h = (refused_cases (between 1 12 m.code) refl h).1

  -- the column after a list of entries is that of the accepted lines
  pub after_opened : (es : List Line) → (opened_of m).number ≡ 0 → after (opened_of m).column es ≡ column_of m (accepted m es)
  after_opened es h = ap (λ (c : Column). after c es) (opened_column h) ∙ after_column m [] es holdable_none

sound_column : (m : Member) (ls : List Line) → between 1 12 m.code ≡ true → Holdable ls → Sound (column_of m ls)
unfolding column_of lines_of
sound_column m ls e h =
    record { code = e; held = record { few = h.few; size = column_size m ls h.few; lines = subst⁻¹ (All InLimits) (column_lines m ls h.lines) h.lines } }

-- a reached column is that of its accepted lines
pub reached_column : {c : Column} (r : Reached c) → c ≡ column_of r.member (accepted r.member r.entries)
reached_column r = r.is ∙ after_opened r.member r.entries r.opened

-- what the private functions ask of a column holds of a reached one
pub sound : {c : Column} → Reached c → Sound c
sound r =
    let m = r.member in
    subst⁻¹ Sound (reached_column r) (sound_column m (accepted m r.entries) (opened_code m r.opened) (accepted_holdable m r.entries))

-- each of its lines is within its limits
pub sound_lines : {c : Column} → Sound c → All InLimits (lines_of c)
unfolding lines_of
sound_lines ok = ok.held.lines

-- a reached column is that of its member and its lines, so its unused places are as opening left them
pub reached_is : {c : Column} → Reached c → c ≡ column_of c.member (lines_of c)
unfolding column_of
reached_is {c} r =
    let m = r.member in
    let ls = accepted m r.entries in
    let e : c ≡ column_of m ls = reached_column r in
    e
    ∙ (ap (column_of m) (sym (ap lines_of e ∙ column_lines m ls (accepted_holdable m r.entries).lines))
    ∙ ap (λ (k : Member). column_of k (lines_of c)) (sym (ap (λ (d : Column). d.member) e)))

-- so two with the same member and the same lines are one value
pub same_column : {c d : Column} → Reached c → Reached d → c.member ≡ d.member → lines_of c ≡ lines_of d → c ≡ d
same_column {c} {d} r s e f =
    reached_is r ∙ (ap (λ (m : Member). column_of m (lines_of c)) e ∙ (ap (column_of d.member) f ∙ sym (reached_is s)))

-- what a refused opening gives is not a reached column
pub unopened_not_reached : Reached unopened → ⊥
unfolding column_of
unopened_not_reached r = false≢true (sound r).code

-- opening a member gives a reached column
pub reached_opened : (m : Member) → (opened_of m).number ≡ 0 → Reached (opened_of m).column
unfolding after
reached_opened m e = record { member = m; entries = []; opened = e; is = refl }

-- entries after others
pub after_append : (c : Column) (es rest : List Line) → after c (es ++ rest) ≡ after (after c es) rest
unfolding after
after_append c [] rest = refl
after_append c (e ∷ es) rest = after_append (entered_of c e).column es rest

-- entering lines on a reached column gives another
pub reached_after : {c : Column} (es : List Line) → Reached c → Reached (after c es)
reached_after es r =
    record {
      member = r.member;
      entries = r.entries ++ es;
      opened = r.opened;
      is = ap (λ (d : Column). after d es) r.is ∙ sym (after_append (opened_of r.member).column r.entries es);
    }

pub reached_entered : {c : Column} (l : Line) → Reached c → Reached (entered_of c l).column
unfolding after
reached_entered l r = reached_after (l ∷ []) r

-- a line that is accepted is one more
pub entered_count : {c : Column} (l : Line) → Reached c → (entered_of c l).number ≡ 0 → (entered_of c l).column.count ≡ c.count + 1
unfolding entered_of column_of
entered_count {c} l r e =
    let ok = (sound r).held in
    let size : length (lines_of c) ≡ c.count = lines_length c (omega (arith, ok.few, ok.size)) in
    ap (λ (o : Outcome). o.column.count) (entered_accepted c l e) ∙ (length-append (lines_of c) (l ∷ []) ∙ rw size refl)

-- it is the last one then
pub entered_last : (c : Column) (l : Line) → (entered_of c l).number ≡ 0 → last_floor (lines_of (entered_of c l).column) ≡ l.floor
unfolding entered_of entry_number
entered_last c l e =
    let ok = no_condition c.member (length (lines_of c)) (last_floor (lines_of c)) l e in
    ap (λ (o : Outcome). last_floor (lines_of o.column)) (entered_accepted c l e)
    ∙ (ap last_floor (more_lines c.member c l ok.1) ∙ last_more (lines_of c) l)

-- a refused one leaves the column
pub entered_stays : (c : Column) (l : Line) → 1 ≤ (entered_of c l).number → (entered_of c l).column ≡ c
unfolding entered_of
entered_stays c l h = ap (λ (o : Outcome). o.column) (entered_refused c l (entry_number c.member (lines_of c) l) h refl)

-- so a column that opening a member gave is a reached one
pub given_reached : {c : Column} (m : Member) → record { number = 0; column = c } ≡ opened_of m → Reached c
given_reached m e =
    subst⁻¹ Reached (ap (λ (o : Outcome). o.column) e) (reached_opened m (sym (ap (λ (o : Outcome). o.number) e)))

-- and so is that of a member that was opened
pub opened_reached : (m : Member) {a : Result Member Refusal} {k : Member} → opened_as (λ j. column_of j []) a ≡ opened_of m → a ≡ Ok k → Reached (column_of k [])
unfolding opened_as
opened_reached m e is = given_reached m (rw is at e)
