-- The lines that numbers hold: within their limits, in order, and sums over them.
-- Assumes nothing.
use Rattle.std.proofs.Common.{◌≡◌, refl, sym, ◌∙◌, ap, arith, ℕ, zero, suc, ◌+◌, ◌≤◌, ◌<◌, Bool, cond, leb, List, [], ◌∷◌, ◌++◌, map, length, take, drop, get_or, sum_by, length-take, length-drop, le_trans, leb-true, le-leb}
use Rattle.std.specs.List.{All as Each}
use Rattle.std.specs.List.Sorted.{IsPartitionedBy}
use Rattle.std.proofs.Math.Logic.{∥∥₁_elim}
use Rattle.std.proofs.Math.Seq.{take-append_seam}
use Rattle.std.proofs.Props.{props}
use Rattle.std.proofs.lemmas.List.{take-append-drop, map-append, take_more}
use Rattle.std.proofs.lemmas.List.Elements.{All-take, All-drop}
use Rattle.std.proofs.lemmas.List.Sums.{sum_by-cons, sum_by-le}
use Rattle.lists.specs.Lists.{All, none, more, total}
use Rattle.lists.proofs.Tests.{cases}
use Rattle.lists.proofs.Lists.{all_first, all_rest}
use Rattle.column.specs.declared.Line.{Line}
use Rattle.column.specs.Line.{unpacked}
use Rattle.column.specs.inner.Sound.{InLimits, line_at}
use Rattle.figure.specs.declared.lines.Lines.{Lines}
use Rattle.figure.specs.declared.shares.Shares.{Shares}
use Rattle.figure.specs.Carried.{formula_lines, area_of, is_formula_line}
use Rattle.figure.specs.inner.Totals.{formula_area, Lined, areas, figures, NotAbove, Ordered, empty, first}
use Rattle.figure.specs.inner.Shared.{figure_by}
use Rattle.figure.proofs.Carried.{area_total}
use Rattle.figure.proofs.Most.{line_most}
use Rattle.figure.proofs.Order.{ordered_first, ordered_rest, ordered_front, ordered_back}

-- what holds of each line, by its place and line by line
pub each_of : {P : Line → Type 0} (ns : List ℕ) → All P (map unpacked ns) → Each (λ n. P (unpacked n)) ns
each_of [] h k d q = absurd (omega arith)
each_of (n ∷ ns) h zero d q = all_first h
each_of (n ∷ ns) h (suc k) d q = each_of ns (all_rest h) k d (omega arith)

pub all_of : {P : Line → Type 0} (ns : List ℕ) → Each (λ n. P (unpacked n)) ns → All P (map unpacked ns)
all_of [] h = none
all_of {P = P} (n ∷ ns) h = more (h 0 n (omega arith)) (all_of {P = P} ns (λ k d q. h (suc k) d (omega arith)))

-- the lines before a place, and those from it on
pub split_at : (k : ℕ) (ns : List ℕ) → map unpacked ns ≡ map unpacked (take k ns) ++ map unpacked (drop k ns)
split_at k ns = ap (map unpacked) (sym (take-append-drop k ns)) ∙ map-append unpacked (take k ns) (drop k ns)

-- one line more
pub next_line : (ns : List ℕ) (i : ℕ) → i < length ns → map unpacked (take (i + 1) ns) ≡ map unpacked (take i ns) ++ (line_at ns i ∷ [])
next_line ns i h = ap (map unpacked) (take_more ns i 0 h) ∙ map-append unpacked (take i ns) (get_or ns i 0 ∷ [])

-- both are lines within their limits
pub lined_take : (k : ℕ) (ns : List ℕ) → Lined ns → Lined (take k ns)
lined_take k ns h = (omega (arith, h.0, length-take k ns), All-take (λ n. InLimits (unpacked n)) k ns h.1)

lined_drop : (k : ℕ) (ns : List ℕ) → Lined ns → Lined (drop k ns)
lined_drop k ns h = (omega (arith, h.0, length-drop k ns), All-drop (λ n. InLimits (unpacked n)) k ns h.1)

-- lines in order go down, so a test of the floor parts them
pub in_order : (ns : List ℕ) → Ordered (map unpacked ns) → (i j : ℕ) (d : ℕ) → i ≤ j → j < length ns → (unpacked (get_or ns i d)).floor ≤ (unpacked (get_or ns j d)).floor
in_order [] o i j d h q = absurd (omega arith)
in_order (n ∷ ns) o zero zero d h q = omega arith
in_order (n ∷ ns) o zero (suc j) d h q = each_of {P = NotAbove (unpacked n).floor} ns (ordered_first o) j d (omega arith)
in_order (n ∷ ns) o (suc i) zero d h q = absurd (omega arith)
in_order (n ∷ ns) o (suc i) (suc j) d h q = in_order ns (ordered_rest o) i j d (omega arith) (omega arith)

pub parted : (f : ℕ) (ns : List ℕ) → Ordered (map unpacked ns) → IsPartitionedBy (λ n. leb (unpacked n).floor f) ns
parted f ns o i j d h q e = le-leb _ f (le_trans (in_order ns o i j d h q) (leb-true _ f e))

ordered_from : (ns : List ℕ) → ((i j d : ℕ) → i ≤ j → j < length ns → (unpacked (get_or ns i d)).floor ≤ (unpacked (get_or ns j d)).floor)
    → Ordered (map unpacked ns)
ordered_from [] h = empty
ordered_from (n ∷ ns) h =
    first (all_of {P = NotAbove (unpacked n).floor} ns (λ k d q. h 0 (suc k) d (omega arith) (omega arith)))
    (ordered_from ns (λ i j d p q. h (suc i) (suc j) d (omega arith) (omega arith)))

-- ---- lines as they are handed on

pub lines_lined : (l : Lines) → Lined l.numbers.now
lines_lined l = ∥∥₁_elim l.lined (Prim.hlevel props) (λ h. h)

pub lines_ordered : (l : Lines) → Ordered (map unpacked l.numbers.now)
lines_ordered l =
    ordered_from l.numbers.now (λ i j d p q. ∥∥₁_elim l.ordered (Prim.hlevel props) (λ o. in_order l.numbers.now o i j d p q))

pub lines_few : (l : Lines) → length l.numbers.now ≤ 256
lines_few l = (lines_lined l).0

pub line_within : (l : Lines) (i d : ℕ) → i < length l.numbers.now → InLimits (unpacked (get_or l.numbers.now i d))
line_within l i d h = (lines_lined l).1 i d h

-- the first of them, and the last
pub ordered_take : (k : ℕ) (ns : List ℕ) → Ordered (map unpacked ns) → Ordered (map unpacked (take k ns))
ordered_take k ns o = ordered_front (map unpacked (take k ns)) (map unpacked (drop k ns)) (rw (split_at k ns) at o)

pub ordered_drop : (k : ℕ) (ns : List ℕ) → Ordered (map unpacked ns) → Ordered (map unpacked (drop k ns))
ordered_drop k ns o = ordered_back (map unpacked (take k ns)) (rw (split_at k ns) at o)

-- and those that stand together from a place on
pub run_held : (l : Lines) (k : ℕ) (run back : List ℕ) → drop k l.numbers.now ≡ run ++ back → Lined run × Ordered (map unpacked run)
run_held l k run back is =
    let ns = drop k l.numbers.now in
    let first : Lined (take (length run) ns) × Ordered (map unpacked (take (length run) ns)) =
    (lined_take (length run) ns (lined_drop k _ (lines_lined l)), ordered_take (length run) ns (ordered_drop k _ (lines_ordered l))) in
    rw (is, take-append_seam run back) at first

-- ---- sums

-- a sum over lines, and over what they say
sum_total : (f : Line → ℕ) (ns : List ℕ) → sum_by (λ n. f (unpacked n)) ns ≡ total f (map unpacked ns)
unfolding total
sum_total f [] = refl
sum_total f (n ∷ ns) = sum_by-cons (λ m. f (unpacked m)) n ns ∙ ap (λ (s : ℕ). f (unpacked n) + s) (sum_total f ns)

pub areas_total : (ns : List ℕ) → areas ns ≡ area_of (formula_lines (map unpacked ns))
areas_total ns = sum_total formula_area ns ∙ sym (area_total (map unpacked ns))

pub figures_total : (s : Shares) (ns : List ℕ) → figures s ns ≡ total (figure_by s) (map unpacked ns)
figures_total s ns = sum_total (figure_by s) ns

-- how large they can be
area_most : (l : Line) → InLimits l → formula_area l ≤ 200000
unfolding formula_area
area_most l h = cases (λ (b : Bool). cond b l.area.0 0 ≤ 200000) (is_formula_line l) (λ e. h.area.1) (λ e. omega arith)

pub areas_most : (ns : List ℕ) → Lined ns → areas ns ≤ 51200000
areas_most ns h = omega (arith, h.0, sum_by-le (λ n. formula_area (unpacked n)) 200000 ns (λ k d q. area_most _ (h.1 k d q)))

pub figures_most : (s : Shares) (ns : List ℕ) → Lined ns → figures s ns ≤ 2560000000000
figures_most s ns h = omega (arith, h.0, sum_by-le (λ n. figure_by s (unpacked n)) 10000000000 ns (λ k d q. line_most s.carried.floors s.carried.influence _ (h.1 k d q)))
