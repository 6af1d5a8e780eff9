-- How large what holds at a floor can be, for a column that opening and entering gave, and how large the figure of one line.
-- Assumes nothing.
use Rattle.std.proofs.Common.{◌≡◌, refl, sym, ◌∙◌, ap, subst, Bool, true, cond, List, append-nil, ℕ, ◌≤◌, le_trans, mul-le-mul, arith, length}
use Rattle.refusal.specs.Said.{gives, refused, nothing}
use Rattle.lists.specs.Lists.{All, none}
use Rattle.reduction.specs.declared.InfluenceArea.{InfluenceArea}
use Rattle.member.proofs.Member.{factor_most}
use Rattle.reduction.proofs.Shares.{share_at_most_one}
use Rattle.reduction.proofs.Reduced.{reduced_at_most_load}
use Rattle.column.specs.declared.Line.{Line}
use Rattle.column.specs.declared.Member.{Member}
use Rattle.column.specs.declared.Column.{Column}
use Rattle.figure.specs.declared.Working.{Working}
use Rattle.figure.specs.Carried.{is_formula_line, formula_lines, carried, has_floor, floors_of, area_of, influence_from, influence_of}
use Rattle.figure.specs.Figure.{line_figure, figure_of}
use Rattle.column.specs.Column.{lines_of, Reached}
use Rattle.figure.specs.Asked.{working_of, asked_of, asked}
use Rattle.figure.specs.theorems.Most.{Most}
use Rattle.column.specs.inner.Sound.{InLimits, Sound}
use Rattle.lists.proofs.Tests.{cases}
use Rattle.lists.proofs.Lists.{keep_length, all_keep, all_so, total_most}
use Rattle.column.proofs.Lines.{lines_length}
use Rattle.column.proofs.Reach.{sound, sound_lines}
use Rattle.figure.proofs.Carried.{carried_front, floors_down}

-- lines within their limits have at most 64 floors
floors_most : {ls : List Line} → All InLimits ls → floors_of ls ≤ 64
floors_most {ls} a =
    let all : carried 64 ls ≡ ls = ap (carried 64) (sym (append-nil ls)) ∙ carried_front 64 (all_so (λ l h. h.floor.1) a) none in
    subst (λ (ks : List Line). floors_of ks ≤ 64) all (floors_down 64 (all_so (λ l h. h.floor.0) a))

-- R × area is at most the largest load on the largest area
pub line_most : (n : ℕ) (x : InfluenceArea) (l : Line) → InLimits l → line_figure n x l ≤ 10000000000
unfolding line_figure
line_most n x l h =
    mul-le-mul (le_trans (reduced_at_most_load _ l.load (share_at_most_one l.load l.class n x)) h.load.1) h.area.1

module _ (c : Column) (ok : Sound c) (f : ℕ) where
  abbrev ls : List Line
  ls = carried f (lines_of c)

  few : length ls ≤ 256
  unfolding carried
  few = le_trans (keep_length _ (lines_of c)) (omega (arith, lines_length c (omega (arith, ok.held.few, ok.held.size)), ok.held.few))

  limits : All InLimits ls
  unfolding carried
  limits = all_keep _ (sound_lines ok)

  area : area_of (formula_lines ls) ≤ 51200000
  unfolding area_of formula_lines
  area = le_trans (total_most _ 200000 (λ l h. h.area.1) (all_keep is_formula_line limits)) (omega (arith, few, keep_length is_formula_line ls))

  pub working_most : Most (working_of c.member (lines_of c) f)
  unfolding working_of influence_of influence_from figure_of
  working_most =
      record {
        floors = floors_most limits;
        influence = mul-le-mul (factor_most c.member.code) area;
        figure = le_trans (total_most _ 10000000000 (line_most _ _) limits) (omega (arith, few));
      }

-- where asking gives something, a line has the floor, and it is n, X and the figure there
pub asked_given : (m : Member) (ls : List Line) (f : ℕ) {w : Working} → asked_of m ls f ≡ gives w → (has_floor f ls ≡ true) × (working_of m ls f ≡ w)
unfolding asked_of
asked_given m ls f {w} =
    cases (λ (b : Bool). cond b (gives (working_of m ls f)) (refused 7 nothing) ≡ gives w → (b ≡ true) × (working_of m ls f ≡ w)) (has_floor f ls)
    (λ e q. (refl, cc)) (λ e q. let z : ◌≡◌ {A = ℕ} 0 1 = cc in absurd (omega arith))

-- so what asking a reached column gives is no larger
pub asked_most : {c : Column} {w : Working} (f : ℕ) → Reached c → asked c f ≡ gives w → Most w
asked_most {c} f r e = subst Most (asked_given c.member (lines_of c) f e).1 (working_most c (sound r) f)
