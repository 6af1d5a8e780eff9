-- The list call gives what opening the member, entering the lines and asking give, and its figure is within the bounds.
-- Assumes nothing.
use Rattle.std.proofs.Common.{◌≡◌, refl, sym, ◌∙◌, ap, Bool, true, false, cond, ◌||◌, List, [], ◌∷◌, ◌++◌, append-nil, ◌⊎◌, inl, inr, ℕ, ◌+◌, ◌≤◌, arith, eqb, length, ne_eqb}
use Rattle.std.proofs.Math.Path.{subst⁻¹}
use Rattle.std.proofs.Math.Seq.{append_snoc}
use Rattle.lists.proofs.Tests.{cases}
use Rattle.refusal.specs.Said.{Told, gives, refused, nothing}
use Rattle.refusal.proofs.Said.{by_number, not_zero}
use Rattle.column.specs.declared.Line.{Line}
use Rattle.column.specs.declared.Member.{Member}
use Rattle.column.specs.declared.Column.{Column}
use Rattle.figure.specs.declared.Working.{Working}
use Rattle.figure.specs.Carried.{has_floor}
use Rattle.column.specs.Accepted.{entry_number}
use Rattle.column.specs.Column.{lines_of, column_of, opened_of, entered_of, after}
use Rattle.column.specs.Pasted.{pasted_of}
use Rattle.figure.specs.Asked.{working_of, asked_of, asked}
use Rattle.error_bound.specs.Claim.{Claim}
use Rattle.column.specs.theorems.Entering.{NoneRefused, none, more, Stops}
use Rattle.column.specs.theorems.EntryNumbers.{NeitherOneNorSeven}
use Rattle.column.specs.theorems.Pasting.{AllKept, KeptBefore}
use Rattle.column.proofs.Columns.{column_lines}
use Rattle.column.specs.theorems.InTurn.{Holdable}
use Rattle.column.proofs.Reach.{holdable_none, holdable_more, entered_accepted, opened_column, opened_number}
use Rattle.column.proofs.Entering.{every_list}
use Rattle.column.proofs.EntryNumbers.{neither_one_nor_seven}
use Rattle.column.proofs.Pasting.{all_kept, kept_before}
use Rattle.error_bound.proofs.Claim.{claimed}
use Rattle.records.specs.Listed.{at_place, listed_from, listed_of, Bounds}
use Rattle.records.specs.theorems.AsEntered.{AtOpening, AtFirst, AsEntered, AsPasted, PlaceZero, FigureOfAll}

-- an answer that refuses gives no figure
no_figure : {P : Type 0} {t : Told ℕ Working} {n place : ℕ} {w : Working} → t ≡ refused n place → t ≡ gives w → P
no_figure p q = let z : ◌≡◌ {A = ℕ} 0 1 = cc in absurd (omega arith)

-- ---- the member is opened, and the lines follow, or it is refused

module _ (m : Member) where
  module _ (lines : List Line) (f : ℕ) where
    pub listed_opened : (opened_of m).number ≡ 0 → listed_of m lines f ≡ listed_from m [] lines f
    unfolding listed_of
    listed_opened e = rw e

    pub listed_unopened : 1 ≤ (opened_of m).number → listed_of m lines f ≡ refused (opened_of m).number 0
    unfolding listed_of
    listed_unopened h = rw (not_zero h)

-- ---- a line joins the lines before it, and the others follow, or it is refused

module _ (m : Member) (ls : List Line) (l : Line) where
  -- entering a line on the column of some lines checks it after these lines
  pub column_number : Holdable ls → (entered_of (column_of m ls) l).number ≡ entry_number m ls l
  unfolding entered_of column_of
  column_number k = rw (column_lines m ls k.lines)

  -- where no condition holds it is the last line of the column then
  pub column_entered : Holdable ls → entry_number m ls l ≡ 0
      → entered_of (column_of m ls) l ≡ record { number = 0; column = column_of m (ls ++ (l ∷ [])) }
  unfolding column_of
  column_entered k e = let back = column_lines m ls k.lines in entered_accepted (column_of m ls) l (rw back e) ∙ rw back

  module _ (lines : List Line) (f : ℕ) where
    pub listed_on : entry_number m ls l ≡ 0 → listed_from m ls (l ∷ lines) f ≡ listed_from m (ls ++ (l ∷ [])) lines f
    unfolding listed_from
    listed_on e = rw e

    pub listed_stop : 1 ≤ entry_number m ls l → listed_from m ls (l ∷ lines) f ≡ refused (entry_number m ls l) (length ls + 1)
    unfolding listed_from
    listed_stop h = rw (not_zero h)

-- ---- lines of which none is refused

-- they join the lines before them, and the others follow
record Joined (m : Member) (ls lines : List Line) : Type 0 where
  holdable : Holdable (ls ++ lines)
  column : after (column_of m ls) lines ≡ column_of m (ls ++ lines)
  listed : (rest : List Line) (f : ℕ) → listed_from m ls (lines ++ rest) f ≡ listed_from m (ls ++ lines) rest f

none_refused : (m : Member) (ls lines : List Line) → Holdable ls → NoneRefused (column_of m ls) lines → Joined m ls lines
unfolding after
none_refused m ls [] k none = record { holdable = rw (append-nil ls) k; column = rw (append-nil ls); listed = λ rest f. rw (append-nil ls) }
none_refused m ls (l ∷ lines) k (more e h) =
    let a : entry_number m ls l ≡ 0 = sym (column_number m ls l k) ∙ e in
    let c : (entered_of (column_of m ls) l).column ≡ column_of m (ls ++ (l ∷ [])) = rw (column_entered m ls l k a) in
    let j = none_refused m (ls ++ (l ∷ [])) lines (holdable_more m ls l k a) (rw c at h) in
    record {
      holdable = rw (append_snoc ls l lines) at j.holdable;
      column = rw c (rw (append_snoc ls l lines) at j.column);
      listed = λ rest f. listed_on m ls l (lines ++ rest) f a ∙ (rw (append_snoc ls l lines) at (j.listed rest f));
    }

-- from the first line on: they are the lines of the column, and the answer is as after them
module _ (m : Member) (lines : List Line) (opened : (opened_of m).number ≡ 0) (h : NoneRefused (opened_of m).column lines) where
  joined : Joined m [] lines
  joined = none_refused m [] lines holdable_none (rw (opened_column m opened) at h)

  all_column : after (opened_of m).column lines ≡ column_of m lines
  all_column = rw (opened_column m opened) joined.column

  all_listed : (rest : List Line) (f : ℕ) → listed_of m (lines ++ rest) f ≡ listed_from m lines rest f
  all_listed rest f = listed_opened m (lines ++ rest) f opened ∙ joined.listed rest f

  all_asked : (f : ℕ) → listed_of m lines f ≡ at_place 0 (asked_of m lines f)
  unfolding listed_from
  all_asked f = rw (append-nil lines) at (all_listed [] f)

-- ---- every list, and its answer

-- 01, Member, line, floor: the code's refusal
pub at_opening : AtOpening
unfolding AtOpening
at_opening m lines f h = listed_unopened m lines f h

-- 01, Member, line, floor: the first refused line's
pub at_first : AtFirst
unfolding AtFirst
at_first m lines f opened s =
    let ls = s.before in
    let number : (entered_of (after (opened_of m).column ls) s.line).number ≡ entry_number m ls s.line =
    ap (λ (c : Column). (entered_of c s.line).number) (all_column m ls opened s.accepted) ∙ column_number m ls s.line (joined m ls opened s.accepted).holdable in
    ap (λ (ks : List Line). listed_of m ks f) s.is
    ∙ (all_listed m ls opened s.accepted (s.line ∷ s.rest) f
    ∙ (listed_stop m ls s.line s.rest f (rw number at s.refused)
    ∙ ap (λ (n : ℕ). refused n (length ls + 1)) (sym number)))

-- 01, Member, line, floor: where no line is refused, the answer is that of opening the member, entering all and asking
pub as_entered : AsEntered
unfolding AsEntered column_of
as_entered m lines f opened h = rw (all_column m lines opened h, column_lines m lines (joined m lines opened h).holdable.lines) (all_asked m lines opened h f)

-- 02, CR 1: opening, pasting and asking
module _ (m : Member) (lines : List Line) (f : ℕ) (opened : (opened_of m).number ≡ 0) where
  pasted_by : NoneRefused (opened_of m).column lines ⊎ Stops (opened_of m).column lines
      → listed_of m lines f
      ≡ (let p = pasted_of (opened_of m).column lines in
      cond {A = Told ℕ Working} (eqb p.number 0) (at_place 0 (asked p.column f)) (refused p.number (p.kept + 1)))
  unfolding AllKept KeptBefore AtFirst AsEntered
  pasted_by (inl h) = rw (all_kept (opened_of m).column lines h) (as_entered m lines f opened h)
  pasted_by (inr s) = rw (kept_before (opened_of m).column lines s, not_zero s.refused) (at_first m lines f opened s)

pub as_pasted : AsPasted
unfolding AsPasted
as_pasted m lines f opened = pasted_by m lines f opened (every_list (opened_of m).column lines)

-- ---- the place of a refusal

-- two refusals that are one have one number and one place
same_refusal : {n place k at : ℕ} → ◌≡◌ {A = Told ℕ Working} (refused n place) (refused k at) → (n ≡ k) × (place ≡ at)
same_refusal e = (cc, cc)

-- an entry's is not 0, and its number neither 1 nor 7
place_of_entry : (c : Column) (l : Line) (before n place : ℕ) → ◌≡◌ {A = Told ℕ Working} (refused (entered_of c l).number (before + 1)) (refused n place)
    → eqb place 0 ≡ (eqb n 1 || eqb n 7)
unfolding entered_of NeitherOneNorSeven
place_of_entry c l before n place e =
    let is = same_refusal e in
    let neither = neither_one_nor_seven c.member (lines_of c) l in
    let some : eqb place 0 ≡ false = not_zero {n = place} (omega (arith, is.1)) in
    let one : eqb n 1 ≡ false = ne_eqb n 1 (λ q. neither.0 (is.0 ∙ q)) in
    let seven : eqb n 7 ≡ false = ne_eqb n 7 (λ q. neither.1 (is.0 ∙ q)) in
    rw (some, one, seven)

-- asking's is 0, and its number 7
place_of_asking : (c : Column) (f n place : ℕ) → at_place 0 (asked c f) ≡ refused n place → eqb place 0 ≡ (eqb n 1 || eqb n 7)
unfolding at_place asked_of
place_of_asking c f n place =
    cases (λ (b : Bool). at_place 0 (cond b (gives (working_of c.member (lines_of c) f)) (refused 7 nothing)) ≡ refused n place → eqb place 0 ≡ (eqb n 1 || eqb n 7))
    (has_floor f (lines_of c))
    (λ _ e. no_figure e refl)
    (λ _ e. let is = same_refusal e in rw (sym is.0, sym is.1))

-- 01, Member, line, floor: "the place is 0 for numbers 1 and 7"
pub place_zero : PlaceZero
unfolding PlaceZero AtOpening AtFirst AsEntered
place_zero m lines f n place given =
    by_number (opened_of m).number
    (λ opened. go opened (every_list (opened_of m).column lines))
    (λ h. let is = same_refusal (sym (at_opening m lines f h) ∙ given) in
    let one : n ≡ 1 = sym is.0 ∙ opened_number m h in
    rw (one, sym is.1))
  where
    go : (opened_of m).number ≡ 0 → NoneRefused (opened_of m).column lines ⊎ Stops (opened_of m).column lines → eqb place 0 ≡ (eqb n 1 || eqb n 7)
    go opened (inl h) = place_of_asking (after (opened_of m).column lines) f n place (sym (as_entered m lines f opened h) ∙ given)
    go opened (inr s) =
        place_of_entry (after (opened_of m).column s.before) s.line (length s.before) n place (sym (at_first m lines f opened s) ∙ given)

-- ---- an answer that gives a figure

-- 01, Member, line, floor: the member is then opened and no line refused
pub figure_of_all : FigureOfAll
unfolding FigureOfAll AtOpening AtFirst
figure_of_all m lines f w given =
    by_number (opened_of m).number
    (λ opened. (opened, go opened (every_list (opened_of m).column lines)))
    (λ k. no_figure (at_opening m lines f k) given)
  where
    go : (opened_of m).number ≡ 0 → NoneRefused (opened_of m).column lines ⊎ Stops (opened_of m).column lines → NoneRefused (opened_of m).column lines
    go opened (inl h) = h
    go opened (inr s) = no_figure (at_first m lines f opened s) given

-- a line has the floor
figure_floor : (m : Member) (ls : List Line) (f : ℕ) (w : Working) → at_place 0 (asked_of m ls f) ≡ gives w → has_floor f ls ≡ true
unfolding at_place asked_of
figure_floor m ls f w =
    cases (λ (b : Bool). at_place 0 (cond b (gives (working_of m ls f)) (refused 7 nothing)) ≡ gives w → b ≡ true) (has_floor f ls) (λ e h. refl) (λ e h. no_figure refl h)

-- 01, Reduced load and figure: the figure is within the bounds, over the lines of the list
pub listed_bounds : (m : Member) (lines : List Line) (f : ℕ) → Bounds m lines f (listed_of m lines f)
unfolding Bounds Claim at_place FigureOfAll
listed_bounds m lines f w h =
    let all = figure_of_all m lines f w h in
    let e : at_place 0 (asked_of m lines f) ≡ gives w = sym (all_asked m lines all.0 all.1 f) ∙ h in
    let d = claimed m lines f (joined m lines all.0 all.1).holdable.lines all.0 (figure_floor m lines f w e) in
    let given : gives d.working ≡ gives w = ap (at_place 0) (sym d.given) ∙ e in
    let is : d.working ≡ w = cc in
    rw is at d.bounded

-- so an answer that says what the definition says promises both
pub promised : (m : Member) (lines : List Line) (f : ℕ) {t : Told ℕ Working} → t ≡ listed_of m lines f
    → (t ≡ listed_of m lines f) × Bounds m lines f t
promised m lines f h = (h, subst⁻¹ (Bounds m lines f) h (listed_bounds m lines f))
