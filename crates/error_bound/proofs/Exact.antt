-- The bounds of demand 3: the rounding, proved once over the share, for one line, and sums of it over the lines carried.
-- Assumes nothing.
use Rattle.std.proofs.Common.{◌≡◌, refl, sym, ◌∙◌, Bool, true, false, cond, not, ◌&&◌, List, [], ◌∷◌, ◌⊎◌, inl, inr, ⊎_elim, ℕ, zero, suc, ◌+◌, ◌*◌, ◌-◌, ◌≤◌, ◌<◌, mul_assoc, mul_comm, mul-add, mul-pos, mul-le-mul_right, mul-lt-mul_of_pos_right, add-zero, zero-add, mul-zero, zero-mul, suc-mul, arith, leb, eqb, leb-true, leb-false, eqb-true}
use Rattle.std.proofs.Math.Bool.{and-eq-true_iff}
use Rattle.std.proofs.Math.Nat.{mul-sub}
use Rattle.reduction.specs.declared.InfluenceArea.{InfluenceArea}
use Rattle.reduction.specs.declared.share.Share.{Share}
use Rattle.reduction.specs.declared.share.Share.TheVariants.{Twentieths, Root}
use Rattle.reduction.specs.Least.{sq}
use Rattle.lists.proofs.Tests.{cases}
use Rattle.lists.specs.Lists.{All, none, more, keep, total}
use Rattle.member.specs.Line.{is_formula}
use Rattle.reduction.specs.Share.{formula_share, other_twentieths, share_of}
use Rattle.reduction.specs.theorems.Rounding.{AtMostOne}
use Rattle.reduction.specs.Reduced.{reaches, reduced}
use Rattle.reduction.proofs.Squares.{sq_mul, sq_five}
use Rattle.reduction.proofs.Shares.{formula_at_most_one, other_within}
use Rattle.reduction.proofs.Reduced.{reduced_reaches, below_does_not}
use Rattle.column.specs.declared.Line.{Line}
use Rattle.column.specs.declared.Member.{Member}
use Rattle.figure.specs.Carried.{is_formula_line, formula_lines, other_lines, floors_of, area_of, influence_of}
use Rattle.figure.specs.Figure.{line_figure, figure_of}
use Rattle.error_bound.specs.Claim.{formula_total, twenty_p, NotBelowExact, BelowExactPlus, Within, exact_share, Bounded}
use Rattle.column.specs.inner.Sound.{InLimits}
use Rattle.lists.proofs.Lists.{total_keep}
use Rattle.error_bound.proofs.Roots.{root_le, below_sum}

-- 20 r area − 5 load area is 5 (4 r − load) area, and its square with X
excess : (load r a : ℕ) → 20 * (r * a) - 5 * (load * a) ≡ 5 * ((4 * r - load) * a)
excess load r a =
    let e : (4 * r - load) * a ≡ 4 * (r * a) - load * a =
    mul_comm (4 * r - load) a
    ∙ (mul-sub a (4 * r) load ∙ rw (mul_comm a (4 * r), mul_assoc 4 r a, mul_comm a load) refl) in
    omega arith

excess_square : (x load r a : ℕ) → x * sq (20 * (r * a) - 5 * (load * a)) ≡ 25 * x * sq (4 * r - load) * sq a
excess_square x load r a =
    rw (excess load r a, sq_five x ((4 * r - load) * a), sq_mul (4 * r - load) a) (sym (mul_assoc (25 * x) (sq (4 * r - load)) (sq a)))

load_square : (load a : ℕ) → sq (914 * (load * a)) ≡ sq (914 * load) * sq a
load_square load a = rw (← mul_assoc 914 load a) (sq_mul (914 * load) a)

-- what reaches, times an area, is not below the exact total
not_below : (s : Share) (load r a : ℕ) → reaches s load r ≡ true → NotBelowExact s (load * a) 0 (r * a)
unfolding reaches NotBelowExact
not_below (Twentieths k) load r a e =
    let h : k * load * a ≤ 20 * r * a = mul-le-mul_right a (leb-true _ _ e) in
    omega (arith, mul_assoc k load a, mul_assoc 20 r a)
not_below (Root x) load r a e =
    let both = (and-eq-true_iff _ _).0 e in
    let low : load * a ≤ 4 * r * a = mul-le-mul_right a (leb-true _ _ both.0) in (
      omega (arith, mul_assoc 4 r a),
      rw (zero-add (5 * (load * a)), excess_square x.0 load r a, load_square load a)
          (mul-le-mul_right (sq a) (leb-true _ _ both.1)),
    )

and_false : (a b : Bool) → (a && b) ≡ false → (a ≡ false) ⊎ (b ≡ false)
and_false true b h = inr h
and_false false b h = inl refl

-- what does not reach, and one more, times an area, is below the exact total and the area
below_more : (s : Share) (load r a : ℕ) → 1 ≤ a → reaches s load r ≡ false → BelowExactPlus s (load * a) 0 a (suc r * a)
unfolding reaches BelowExactPlus
below_more (Twentieths k) load r a pos e =
    let h : 20 * r * a < k * load * a = mul-lt-mul_of_pos_right (leb-false _ _ e) pos in
    omega (arith, mul_assoc k load a, mul_assoc 20 r a, suc-mul r a)
below_more (Root x) load r a pos e = ⊎_elim short squares (and_false _ _ e)
  where
    short : leb load (4 * r) ≡ false → BelowExactPlus (Root x) (load * a) 0 a (suc r * a)
    short f =
        let h : 4 * r * a < load * a = mul-lt-mul_of_pos_right (leb-false _ _ f) pos in
        inl (omega (arith, mul_assoc 4 r a, suc-mul r a))

    squares : leb (sq (914 * load)) (25 * x.0 * sq (4 * r - load)) ≡ false → BelowExactPlus (Root x) (load * a) 0 a (suc r * a)
    squares f =
        let g : 20 * (suc r * a) - (0 + 5 * (load * a) + 20 * a) ≡ 20 * (r * a) - 5 * (load * a) = omega (arith, suc-mul r a) in
        inr (rw (g, excess_square x.0 load r a, load_square load a) (mul-lt-mul_of_pos_right (leb-false _ _ f) (mul-pos pos pos)))

-- nothing times an area is below the area
below_zero : (s : Share) (t a : ℕ) → 1 ≤ a → BelowExactPlus s t 0 a (0 * a)
unfolding BelowExactPlus
below_zero (Twentieths k) t a pos = rw (zero-mul a) (omega arith)
below_zero (Root x) t a pos = inl (rw (zero-mul a) (omega arith))

-- E ≤ R × area < E + area
pub rounded : (s : Share) (load a : ℕ) → AtMostOne s → 1 ≤ a → Within s (load * a) 0 a (reduced s load * a)
rounded s load a h pos =
    record { low = not_below s load (reduced s load) a (reduced_reaches s load h); high = high (reduced s load) refl }
  where
    high : (r : ℕ) → reduced s load ≡ r → BelowExactPlus s (load * a) 0 a (r * a)
    high zero e = below_zero s (load * a) a pos
    high (suc r) e = below_more s load r a pos (below_does_not s load h r (omega arith))

-- sums keep the bounds
within_sum : (s : Share) (t p a f t' p' a' f' : ℕ) → Within s t p a f → Within s t' p' a' f' → Within s (t + t') (p + p') (a + a') (f + f')
unfolding NotBelowExact BelowExactPlus
within_sum (Twentieths k) t p a f t' p' a' f' u v =
    record { low = rw (mul-add k t t') (omega (arith, u.low, v.low)); high = rw (mul-add k t t') (omega (arith, u.high, v.high)) }
within_sum (Root x) t p a f t' p' a' f' u v =
    let d : 20 * (f + f') - (p + p' + 5 * (t + t')) ≡ (20 * f - (p + 5 * t)) + (20 * f' - (p' + 5 * t')) = omega (arith, u.low.0, v.low.0) in
    let e : p + p' + 5 * (t + t') + 20 * (a + a') ≡ (p + 5 * t + 20 * a) + (p' + 5 * t' + 20 * a') = omega arith in
    record {
      low = (
        omega (arith, u.low.0, v.low.0),
        rw (d, mul-add 914 t t') (root_le x.0 (20 * f - (p + 5 * t)) (20 * f' - (p' + 5 * t')) (914 * t) (914 * t') u.low.1 v.low.1),
      );
      high =
          rw (e, mul-add 20 f f', mul-add 914 t t')
          (below_sum x.0 (20 * f) (p + 5 * t + 20 * a) (914 * t) (20 * f') (p' + 5 * t' + 20 * a') (914 * t') u.high v.high);
    }

-- a line that is not a formula line, beside formula lines at any share: its exact total goes to 20P
beside : (s : Share) (k t a f : ℕ) → Within (Twentieths k) t 0 a f → Within s 0 (k * t) a f
unfolding NotBelowExact BelowExactPlus
beside (Twentieths j) k t a f w = record { low = rw (mul-zero j) (omega (arith, w.low)); high = rw (mul-zero j) (omega (arith, w.high)) }
beside (Root x) k t a f w = record { low = (omega (arith, w.low), omega arith); high = inl (omega (arith, w.high)) }

-- what a line adds to T, and to 20P
formula_part : Line → ℕ
formula_part l = cond (is_formula_line l) (l.load * l.area.0) 0

other_part : ℕ → Line → ℕ
other_part n l = cond (not (is_formula_line l)) (other_twentieths l.class n * (l.load * l.area.0)) 0

other_one : (class n : ℕ) → AtMostOne (Twentieths (other_twentieths class n))
unfolding AtMostOne
other_one class n = (other_within class n).1

-- the rounding of one line among others
line_within : (n : ℕ) (x : InfluenceArea) (l : Line) → 1 ≤ l.area.0
    → Within (formula_share n x) (formula_part l) (other_part n l) l.area.0 (line_figure n x l)
unfolding line_figure formula_part other_part is_formula_line share_of
line_within n x l pos =
    cases (λ (b : Bool). Within (formula_share n x) (cond b (l.load * l.area.0) 0)
    (cond (not b) (other_twentieths l.class n * (l.load * l.area.0)) 0) l.area.0
    (reduced (cond b (formula_share n x) (Twentieths (other_twentieths l.class n))) l.load * l.area.0)) (is_formula l.load l.class)
    (λ e. rounded (formula_share n x) l.load l.area.0 (formula_at_most_one n x) pos)
    (λ e. beside (formula_share n x) (other_twentieths l.class n) (l.load * l.area.0) l.area.0 _
    (rounded (Twentieths (other_twentieths l.class n)) l.load l.area.0 (other_one l.class n) pos))

-- T and 20P of no line, and of one line more
formula_none : formula_total [] ≡ 0
unfolding formula_total formula_lines keep total
formula_none = refl

other_none : (n : ℕ) → twenty_p n [] ≡ 0
unfolding twenty_p other_lines keep total
other_none n = refl

formula_more : (l : Line) (ls : List Line) → formula_total (l ∷ ls) ≡ formula_part l + formula_total ls
unfolding formula_total formula_lines formula_part
formula_more l ls = total_keep _ is_formula_line l ls

other_more : (n : ℕ) (l : Line) (ls : List Line) → twenty_p n (l ∷ ls) ≡ other_part n l + twenty_p n ls
unfolding twenty_p other_lines other_part
other_more n l ls = total_keep _ (λ (k : Line). not (is_formula_line k)) l ls

-- the bounds of some lines, one or more
lines_within : (n : ℕ) (x : InfluenceArea) (l : Line) (ls : List Line) → All InLimits (l ∷ ls)
    → Within (formula_share n x) (formula_total (l ∷ ls)) (twenty_p n (l ∷ ls)) (area_of (l ∷ ls)) (total (line_figure n x) (l ∷ ls))
unfolding area_of total
lines_within n x l [] (more h none) =
    rw (formula_more l [], other_more n l [], formula_none, other_none n, add-zero (formula_part l), add-zero (other_part n l), add-zero l.area.0, add-zero (line_figure n x l))
    (line_within n x l h.area.0)
lines_within n x l (k ∷ ls) (more h hs) =
    rw (formula_more l (k ∷ ls), other_more n l (k ∷ ls))
    (within_sum (formula_share n x) _ _ _ _ _ _ _ _ (line_within n x l h.area.0) (lines_within n x k ls hs))

-- where T is 0 there is no root: the bounds are those of whole numbers, at whatever share
no_root : (s : Share) (p a f : ℕ) → Within s 0 p a f → Within (Twentieths 20) 0 p a f
unfolding NotBelowExact BelowExactPlus
no_root (Twentieths k) p a f w = record { low = omega (arith, w.low, mul-zero k); high = omega (arith, w.high, mul-zero k) }
no_root (Root x) p a f w = record { low = omega (arith, w.low.0); high = ⊎_elim (λ h. omega arith) (λ h. absurd (omega arith)) w.high }

exact : (s : Share) (t p a f : ℕ) → Within s t p a f → Within (exact_share t s) t p a f
unfolding exact_share
exact s t p a f w =
    cases (λ (b : Bool). Within (cond b (Twentieths 20) s) t p a f) (eqb t 0)
    (λ e. rw (eqb-true t 0 e) (no_root s p a f (rw (eqb-true t 0 e) at w))) (λ e. w)

-- E ≤ F < E + A, for one line or more within their limits
pub bounded : (m : Member) (l : Line) (ls : List Line) → All InLimits (l ∷ ls) → Bounded m (l ∷ ls) (figure_of m (l ∷ ls))
unfolding Bounded figure_of
bounded m l ls h = exact _ _ _ _ _ (lines_within (floors_of (l ∷ ls)) (influence_of m (l ∷ ls)) l ls h)
