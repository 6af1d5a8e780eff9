-- Going down the floors of a column: what is carried at the next floor, and what holds there in the table.
-- Assumes nothing.
use Rattle.std.proofs.Common.{◌≡◌, refl, sym, ◌∙◌, ap, arith, ℕ, zero, suc, ◌+◌, ◌-◌, ◌≤◌, ◌<◌, true, false, eqb, List, [], ◌∷◌, ◌++◌, Option, Some, map, Bool, add-one, length, take, drop, get_or, length-append, append_assoc, append-nil, add-zero, eqb-true}
use Rattle.std.proofs.lemmas.Bool.{eqb-false}
use Rattle.std.specs.List.{IsChunkByPrefix}
use Rattle.std.proofs.lemmas.List.{map-append, drop-drop, get_or-drop, get_or_default, get_or_append_left, get_or-append-add}
use Rattle.std.proofs.Math.Seq.{take-append_seam, drop-append_seam}
use Rattle.std.proofs.lemmas.List.Sums.{sum_by-append}
use Rattle.lists.specs.Lists.{All, none, keep, total}
use Rattle.lists.proofs.Lists.{all_so, all_rest, all_front, all_append}
use Rattle.member.specs.Between.{between}
use Rattle.column.specs.declared.Line.{Line}
use Rattle.column.specs.declared.Member.{Member}
use Rattle.column.specs.declared.Column.{Column}
use Rattle.column.specs.Line.{unpacked}
use Rattle.column.specs.Column.{lines_of, Reached}
use Rattle.column.specs.inner.Sound.{InLimits, line_at}
use Rattle.figure.specs.declared.lines.Lines.{Lines}
use Rattle.figure.specs.declared.Working.{Working}
use Rattle.figure.specs.declared.descent.Descent.{Descent}
use Rattle.figure.specs.Carried.{formula_lines, has_floor, floors_of, area_of, influence_from, influence_of}
use Rattle.figure.specs.Figure.{figure_of}
use Rattle.figure.specs.Asked.{working_of, asked_of, asked}
use Rattle.figure.specs.Lowest.{lowest_figure}
use Rattle.figure.specs.Workings.{working_said, workings_of}
use Rattle.figure.specs.inner.Totals.{formula_area, areas, At, DownTo, Below, Ordered}
use Rattle.figure.specs.inner.Shared.{SharesOf}
use Rattle.figure.specs.inner.Descent.{left, RunAt, working_put, Descended, NextOf}
use Rattle.figure.proofs.Carried.{Other, has_none, has_at, floors_run, carried_front}
use Rattle.figure.proofs.Lowest.{lowest_all}
use Rattle.figure.proofs.HeldLines.{all_of, each_of, in_order, lines_lined, lines_ordered, ordered_drop, areas_total, figures_total}
use Rattle.figure.proofs.Workings.{passed_to, passed_over, passed_put, passed_all}

-- ---- the lines of one floor, as neighbours show it

abbrev pub same_floor : ℕ → ℕ → Bool
same_floor x y = eqb (unpacked x).floor (unpacked y).floor

module _ (rest run back : List ℕ) (is : rest ≡ run ++ back) (some : 0 < length run) (cut : IsChunkByPrefix same_floor rest (length run)) where
  -- neighbours among them have one floor, so all have that of the first
  floor_of_run : (k d : ℕ) → k < length run → (unpacked (get_or run k d)).floor ≡ (line_at run 0).floor
  floor_of_run zero d h = ap (λ (n : ℕ). (unpacked n).floor) (get_or_default run 0 d 0 h)
  floor_of_run (suc k) d h =
      let pair : (unpacked (get_or run k d)).floor ≡ (unpacked (get_or run (k + 1) d)).floor =
      rw (is, get_or_append_left run back d k (omega arith), get_or_append_left run back d (k + 1) (omega arith)) at (eqb-true (unpacked (get_or rest k d)).floor (unpacked (get_or rest (k + 1) d)).floor (cut.0 k d (omega arith))) in
      sym (rw (add-one k) at pair) ∙ floor_of_run k d (omega arith)

  -- the line after them has another, and in lines in order a lower one
  back_below : Ordered (map unpacked rest) → (j d : ℕ) → j < length back → (line_at run 0).floor < (unpacked (get_or back j d)).floor
  back_below o j d h =
      let n = length run in
      let size : length rest ≡ n + length back = ap length is ∙ length-append run back in
      let last : get_or rest (n - 1) d ≡ get_or run (n - 1) d = rw is (get_or_append_left run back d (n - 1) (omega arith)) in
      let here : get_or rest (n + j) d ≡ get_or back j d = rw is (get_or-append-add run back j d) in
      let new = eqb-false (unpacked (get_or rest (n - 1) d)).floor (unpacked (get_or rest n d)).floor (cut.1 (omega (arith, size)) d) in
      let down = in_order rest o (n - 1) n d (omega arith) (omega (arith, size)) in
      let further = in_order rest o n (n + j) d (omega arith) (omega (arith, size)) in
      let first = ap (λ (m : ℕ). (unpacked m).floor) last ∙ floor_of_run (n - 1) d (omega arith) in
      let end = ap (λ (m : ℕ). (unpacked m).floor) here in
      omega (arith, new, down, further, first, end)

pub run_at : (l : Lines) (k : ℕ) (rest run back : List ℕ) → rest ≡ drop k l.numbers.now → rest ≡ run ++ back → 0 < length run
    → IsChunkByPrefix same_floor rest (length run) → RunAt (drop k l.numbers.now) run
run_at l k rest run back here is some cut =
    let o : Ordered (map unpacked rest) = rw here (ordered_drop k l.numbers.now (lines_ordered l)) in
    record {
      rest = back;
      is = sym here ∙ is;
      some = some;
      same = all_of {P = At (line_at run 0).floor} run (λ k d h. floor_of_run rest run back is some cut k d h);
      below = all_of {P = Below (line_at run 0).floor} back (λ j d h. back_below rest run back is some cut o j d h);
    }

-- what is left after them
pub rest_after : (ns front run back : List ℕ) → drop (length front) ns ≡ run ++ back → drop (length (front ++ run)) ns ≡ back
rest_after ns front run back e =
    rw (length-append front run) (sym (drop-drop (length run) (length front) ns) ∙ (ap (drop (length run)) e ∙ drop-append_seam run back))

-- ---- the walk

-- it begins above the first line
pub descended_top : (m : Member) (l : Lines) (d : Descent) → between 1 12 m.code ≡ true → d.carried.numbers.now ≡ [] → d.floor ≡ 0 → SharesOf 0 (influence_from m 0) d.shares
    → Descended m l.numbers.now d
unfolding floors_of influence_of area_of formula_lines keep total
descended_top m l d code top floor e =
    record {
      code = code;
      first = rw top;
      floor_most = omega (arith, floor);
      down = rw top none;
      below = rw (top, floor) (all_so {P = InLimits} {Q = Below 0} (λ l h. h.floor.0) (all_of {P = InLimits} l.numbers.now (lines_lined l).1));
      floors_most = omega (arith, e.0);
      shares = rw top e;
    }

-- they are one floor more where no line before them has it
floors_with : (ls : List Line) (run : List ℕ) → 0 < length run → All (Other (line_at run 0).floor) ls → All (At (line_at run 0).floor) (map unpacked run)
    → floors_of (ls ++ map unpacked run) ≡ floors_of ls + 1
floors_with ls [] h o a = absurd (omega arith)
floors_with ls (n ∷ run) h o a = floors_run (unpacked n).floor o (unpacked n) refl (all_rest a)

-- what is carried where the lines of the next floor end
module _ {m : Member} {ns : List ℕ} {d : Descent} {run : List ℕ} (h : Descended m ns d) (r : RunAt (left ns d.carried) run) where
  abbrev line : Line
  line = line_at run 0

  -- the lines above, the new ones, and those after them
  whole : ns ≡ (d.carried.numbers.now ++ run) ++ r.rest
  whole = h.first ∙ (ap (λ (l : List ℕ). d.carried.numbers.now ++ l) r.is ∙ sym (append_assoc d.carried.numbers.now run r.rest))

  pub run_inside : length d.carried.numbers.now + length run ≤ length ns
  run_inside = omega (arith, ap length whole, length-append (d.carried.numbers.now ++ run) r.rest, length-append d.carried.numbers.now run)

  pub run_front : take (length d.carried.numbers.now + length run) ns ≡ d.carried.numbers.now ++ run
  run_front = rw (← length-append d.carried.numbers.now run) (ap (take (length (d.carried.numbers.now ++ run))) whole ∙ take-append_seam (d.carried.numbers.now ++ run) r.rest)

  run_rest : (front : Lines) → front.numbers.now ≡ d.carried.numbers.now ++ run → left ns front ≡ r.rest
  run_rest front e = rw e (rest_after ns d.carried.numbers.now run r.rest r.is)

  both : map unpacked (d.carried.numbers.now ++ run) ≡ map unpacked d.carried.numbers.now ++ map unpacked run
  both = map-append unpacked d.carried.numbers.now run

  pub lower : d.floor < line.floor
  lower = each_of {P = Below d.floor} run (all_front (map unpacked run) (map unpacked r.rest) (rw (r.is, map-append unpacked run r.rest) at h.below)) 0 0 r.some

  floors : floors_of (map unpacked (d.carried.numbers.now ++ run)) ≡ d.shares.carried.floors + 1
  floors =
      rw (both, h.shares.0) (floors_with (map unpacked d.carried.numbers.now) run r.some (all_so {P = DownTo d.floor} {Q = Other line.floor} (λ l q e. omega (arith, lower)) h.down) r.same)

  -- their formula lines' area is that above and that of the new ones
  pub run_areas : areas (d.carried.numbers.now ++ run) ≡ d.area.0 + areas run
  run_areas = rw d.area_is (sum_by-append (λ k. formula_area (unpacked k)) d.carried.numbers.now run)

  pub next_of : (n : Descent) → InLimits line → n.carried.numbers.now ≡ d.carried.numbers.now ++ run → n.floor ≡ line.floor
      → SharesOf (d.shares.carried.floors + 1) (influence_from m n.area.0) n.shares → NextOf m ns d run n
  unfolding influence_of
  next_of n within is floor shares =
      record {
        descended =
            record {
              code = h.code;
              first = rw (run_rest n.carried is, is) whole;
              floor_most = rw floor within.floor.1;
              down = rw (floor, is, both) (all_append (all_so {P = DownTo d.floor} {Q = DownTo line.floor} (λ l q. omega (arith, lower)) h.down) (all_so {P = At line.floor} {Q = DownTo line.floor} (λ l q. omega (arith, q)) r.same));
              below = rw (floor, run_rest n.carried is) r.below;
              floors_most = omega (arith, shares.0, h.floors_most, ap length is, length-append d.carried.numbers.now run, r.some);
              shares = (shares.0 ∙ rw is (sym floors), shares.1 ∙ rw (n.area_is, areas_total n.carried.numbers.now));
            };
        carried = is;
        floor = floor;
      }

-- what is known of the walk in the table
module _ (c : Column) {ns : List ℕ} (seen : map unpacked ns ≡ lines_of c) where
  module _ {d : Descent} (h : Descended c.member ns d) where
    split : lines_of c ≡ map unpacked d.carried.numbers.now ++ map unpacked (left ns d.carried)
    split = sym seen ∙ (ap (map unpacked) h.first ∙ map-append unpacked d.carried.numbers.now (left ns d.carried))

    -- no line has a floor between that of the last one carried and those of the others
    none_at : (f : ℕ) → d.floor < f → All (Below f) (map unpacked (left ns d.carried)) → has_floor f (lines_of c) ≡ false
    none_at f low high =
        rw split (has_none f (all_append (all_so {P = DownTo d.floor} {Q = Other f} (λ l q e. omega arith) h.down) (all_so {P = Below f} {Q = Other f} (λ l q e. omega arith) high)))

    -- the lines before the place are those carried, so what holds of them is what asking at the floor gives
    working_here : has_floor d.floor (lines_of c) ≡ true
        → working_said (asked c d.floor) ≡ Some (record { floors = d.shares.carried.floors; influence = d.shares.carried.influence; figure = d.figure })
    unfolding asked_of working_of working_said figure_of
    working_here has =
        rw (has, split, carried_front d.floor h.down h.below, d.figure_is, figures_total d.shares d.carried.numbers.now, h.shares.0, h.shares.1)

    -- at the end of the lines the table has every floor
    pub all_passed : left ns d.carried ≡ [] → passed_to c d.floor ≡ workings_of c 64
    all_passed e =
        passed_over c (64 - d.floor) d.floor 64 (omega (arith, h.floor_most)) (omega arith) (λ f low high. none_at f low (rw e none))
        ∙ passed_all c

    -- and the figure is that of all lines
    pub all_summed : Reached c → left ns d.carried ≡ [] → d.figure ≡ lowest_figure c.member (lines_of c)
    unfolding figure_of
    all_summed r e =
        let all : d.carried.numbers.now ≡ ns = sym (append-nil d.carried.numbers.now) ∙ (ap (λ (l : List ℕ). d.carried.numbers.now ++ l) (sym e) ∙ sym h.first) in
        rw (d.figure_is, figures_total d.shares d.carried.numbers.now, h.shares.0, h.shares.1, all, seen) (sym (lowest_all r))

  -- the next floor's working put into the table
  module _ {d n : Descent} {run : List ℕ} (h : Descended c.member ns d) (r : RunAt (left ns d.carried) run) (q : NextOf c.member ns d run n) where
    pub lower_floor : d.floor < n.floor
    lower_floor = rw q.floor (lower h r)

    has : has_floor n.floor (lines_of c) ≡ true
    has =
        rw (← seen)
        (has_at n.floor ns (length d.carried.numbers.now) 0 (omega (arith, run_inside h r, r.some))
        (ap (λ (k : ℕ). (unpacked k).floor) first ∙ sym q.floor))
      where
        first : get_or ns (length d.carried.numbers.now) 0 ≡ get_or run 0 0
        first = rw (← add-zero (length d.carried.numbers.now), ← get_or-drop (length d.carried.numbers.now) ns 0 0, r.is) (get_or_append_left run r.rest 0 0 r.some)

    pub next_put : {table : List (Option Working)} → table ≡ passed_to c d.floor → working_put table n ≡ passed_to c n.floor
    next_put e =
        let f = n.floor - 1 in
        let at : suc f ≡ n.floor = omega (arith, lower_floor) in
        let new : All (At n.floor) (map unpacked run) = rw (← q.floor) at r.same in
        let after : All (Below n.floor) (map unpacked r.rest) = rw (← q.floor) at r.below in
        let rest : map unpacked (left ns d.carried) ≡ map unpacked run ++ map unpacked r.rest = ap (map unpacked) r.is ∙ map-append unpacked run r.rest in
        let over = passed_over c (f - d.floor) d.floor f (omega (arith, lower_floor)) (omega (arith, q.descended.floor_most))
        (λ i low high. none_at h i low (rw rest (all_append (all_so {P = At n.floor} {Q = Below i} (λ l p. omega (arith, lower_floor)) new) (all_so {P = Below n.floor} {Q = Below i} (λ l p. omega (arith, lower_floor)) after)))) in
        rw (e, over) (passed_put c f (omega (arith, q.descended.floor_most, lower_floor)) (rw at (working_here q.descended has)) ∙ ap (passed_to c) at)
