-- Every row of the table of figures holds: one computed test over the table, and one law that turns it into what the rows say.
-- Assumes nothing.
use Rattle.std.proofs.Common.{◌≡◌, refl, ◌∙◌, ap, Bool, true, false, not, ◌&&◌, List, [], ◌∷◌, ℕ, eqb, eqb-true}
use Rattle.std.proofs.lemmas.Bool.{false≢true, not-true, and_parts}
use Rattle.refusal.specs.Said.{Said, gives, refused}
use Rattle.reduction.specs.declared.InfluenceArea.{InfluenceArea}
use Rattle.reduction.specs.declared.share.Share.TheVariants.{Root}
use Rattle.reduction.specs.Least.{least_from}
use Rattle.lists.specs.Lists.{All, none, more}
use Rattle.member.specs.Line.{is_formula}
use Rattle.reduction.specs.Share.{dm², one_floor, root_at_least, root_at_most, least_twentieths, formula_share, other_twentieths, share_of}
use Rattle.reduction.specs.Reduced.{reaches, reduced, reduced_of}
use Rattle.reduction.specs.tables.Figures.{at, any, uncapped, Row, row, figures, Says}

-- an answer gives this number
is : ℕ → Said ℕ → Bool
is r (gives m) = eqb m r
is r (refused n _) = false

is_true : (r : ℕ) (a : Said ℕ) → is r a ≡ true → a ≡ gives r
unfolding is
is_true r (gives m) e = ap gives (eqb-true m r e)
is_true r (refused n _) e = absurd (false≢true e)

-- a line that the formula is not for has one reduced load at every influence area
any_area : (load class n : ℕ) (x y : InfluenceArea) → is_formula load class ≡ false → reduced_of load class n x ≡ reduced_of load class n y
unfolding reduced_of share_of
any_area load class n x y e = rw e

-- the test of a row, and what it shows
right : Row → Bool
right (row load class n (at x) r) = is r (reduced_of load class n (dm² x))
right (row load class n any r) = not (is_formula load class) && is r (reduced_of load class n (dm² 0))
right (row load class n (uncapped x) r) = eqb (reduced (Root (dm² x)) load) r

says : (q : Row) → right q ≡ true → Says q
unfolding right Says
says (row load class n (at x) r) e = is_true r _ e
says (row load class n any r) e =
    let both = and_parts _ _ e in
    λ x. any_area load class n x (dm² 0) (not-true _ both.0) ∙ is_true r _ both.1
says (row load class n (uncapped x) r) e = eqb-true _ _ e

all_right : List Row → Bool
all_right [] = true
all_right (q ∷ qs) = right q && all_right qs

all_say : (qs : List Row) → all_right qs ≡ true → All Says qs
unfolding all_right
all_say [] e = none
all_say (q ∷ qs) e =
    let both = and_parts _ _ e in
    more (says q both.0) (all_say qs both.1)

computed : all_right figures ≡ true
unfolding figures all_right right is reduced_of reduced reaches least_from share_of is_formula one_floor root_at_least root_at_most least_twentieths formula_share other_twentieths
computed = refl

-- 01, Figures to check against: every row with P
pub figures_hold : All Says figures
figures_hold = all_say figures computed
