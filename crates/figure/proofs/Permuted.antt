-- Nothing that holds at a floor looks at the order of the lines.
-- Assumes nothing.
use Rattle.std.proofs.Common.{◌≡◌, sym, ap, Bool, cond, ◌||◌, List, ℕ, ◌+◌, arith, eqb, ne_eqb}
use Rattle.std.proofs.Math.Decide.{ℕ_discrete}
use Rattle.lists.specs.Lists.{some}
use Rattle.lists.specs.theorems.Orders.{Permuted}
use Rattle.lists.proofs.Permuted.{permuted_same, some_permuted, total_permuted, keep_permuted}
use Rattle.column.specs.declared.Line.{Line}
use Rattle.column.specs.declared.Member.{Member}
use Rattle.figure.specs.Carried.{is_formula_line, formula_lines, carried, has_floor, floors_of, area_of, influence_from, influence_of}
use Rattle.figure.specs.Figure.{figure_of}
use Rattle.figure.specs.Asked.{working_of, asked_of}

pub has_permuted : (f : ℕ) {xs ys : List Line} → Permuted xs ys → has_floor f xs ≡ has_floor f ys
unfolding has_floor
has_permuted f = some_permuted _

-- two floors count as many in either order, whichever floors the other lines have
either_order : (has : ℕ → Bool) (f g n : ℕ)
    → cond (eqb g f || has f) 0 1 + (cond (has g) 0 1 + n) ≡ cond (eqb f g || has g) 0 1 + (cond (has f) 0 1 + n)
either_order has f g n =
    elim (ℕ_discrete f g) [
      | yes e ↦ rw e
      | no d ↦ rw (ne_eqb f g d, ne_eqb g f (λ e. d (sym e))) (omega arith)
    ]

pub floors_permuted : {xs ys : List Line} → Permuted xs ys → floors_of xs ≡ floors_of ys
unfolding floors_of has_floor some
floors_permuted =
    permuted_same floors_of (λ l xs ys h e. rw (has_permuted l.floor h, e))
    (λ l k ls. either_order (λ f. has_floor f ls) l.floor k.floor (floors_of ls))

pub influence_permuted : (m : Member) {xs ys : List Line} → Permuted xs ys → influence_of m xs ≡ influence_of m ys
unfolding influence_of area_of formula_lines
influence_permuted m h = ap (influence_from m) (total_permuted _ (keep_permuted is_formula_line h))

pub figure_permuted : (m : Member) {xs ys : List Line} → Permuted xs ys → figure_of m xs ≡ figure_of m ys
unfolding figure_of
figure_permuted m h = rw (floors_permuted h, influence_permuted m h) (total_permuted _ h)

pub carried_permuted : (f : ℕ) {xs ys : List Line} → Permuted xs ys → Permuted (carried f xs) (carried f ys)
unfolding carried
carried_permuted f = keep_permuted _

-- 02, CR 10: "with these lines as the accepted ones, in whatever order"; 01, Member, line, floor, and Reduced load and figure:
-- n, X and the figure at a floor, or 7, are the same
pub asked_permuted : (m : Member) (f : ℕ) {xs ys : List Line} → Permuted xs ys → asked_of m xs f ≡ asked_of m ys f
unfolding asked_of working_of
asked_permuted m f h =
    let c = carried_permuted f h in
    rw (has_permuted f h, floors_permuted c, influence_permuted m c, figure_permuted m c)
