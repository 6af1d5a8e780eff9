-- Paper 01, "Figures to check against" and "The sheet": columns and their figures, and demand 3 of them in numbers, as tables.
-- Figures that the paper does not print are the second reckoning's, which the gate holds `examples` and `refusing_examples`
-- against; the numbers of `judgements` and `squares` are proved alone.
-- Assumes nothing.
use Rattle.std.specs.Prelude.{◌≡◌, Bool, true, false, List, [], ◌∷◌, ℕ, ◌*◌, leb, ltb}
use Rattle.refusal.specs.Said.{gives}
use Rattle.reduction.specs.declared.share.Share.TheVariants.{Root}
use Rattle.reduction.specs.Least.{sq}
use Rattle.reduction.specs.Share.{dm², formula_share}
use Rattle.column.specs.declared.Line.{Line}
use Rattle.column.specs.Accepted.{accepted}
use Rattle.column.specs.Column.{member_of}
use Rattle.column.specs.Line.{entries_of}
use Rattle.figure.specs.Carried.{carried, floors_of, area_of, influence_of}
use Rattle.figure.specs.inner.Working.{working_from}
use Rattle.figure.specs.tables.Examples.{heavy_above, sample_sheet}
use Rattle.error_bound.specs.Entries.{asked_after, refusals_after}
use Rattle.error_bound.specs.Claim.{formula_total, twenty_p, G, GLess20A, Bounded}

-- a member's code, its lines, four numbers a line, a floor, and n, X and the figure there
pub data Example : Type 0 where
  example : ℕ → List ℕ → ℕ → ℕ → ℕ → ℕ → Example

-- a formula line and a garage at floor 1, a formula line and an assembly at floor 5: at 1 n is not the count of lines, at 5 it
-- is not the floor's number either, and a garage's or an assembly's area in X would show
unfoldable pub mixed : List ℕ
mixed =
    1 ∷ 1 ∷ 2000 ∷ 8000
    ∷ 1 ∷ 2 ∷ 2501 ∷ 4000
    ∷ 5 ∷ 1 ∷ 3000 ∷ 6000
    ∷ 5 ∷ 3 ∷ 4000 ∷ 500
    ∷ []

-- the sample's two lines, the first and the fourth entry, among three that are refused: for the load, the class and the floor
unfoldable pub mistyped : List ℕ
mistyped =
    1 ∷ 1 ∷ 2000 ∷ 1600
    ∷ 2 ∷ 1 ∷ 200000 ∷ 1600
    ∷ 3 ∷ 4 ∷ 2000 ∷ 1600
    ∷ 2 ∷ 1 ∷ 2000 ∷ 1600
    ∷ 1 ∷ 1 ∷ 2000 ∷ 1600
    ∷ []

-- a garage above a small formula line: its 4/5 of 2,501 is rounded up by a fifth of a newton on 10,000 dm²
unfoldable pub garage_above : List ℕ
garage_above = 1 ∷ 2 ∷ 2501 ∷ 10000 ∷ 2 ∷ 1 ∷ 2000 ∷ 100 ∷ []

-- 01, Figures to check against, where the figure falls, and The sheet; then one code of each factor, 3, 4, 2 and 1, refused
-- entries, and the garage
unfoldable pub examples : List Example
examples =
    example 1 heavy_above 1 1 0 60000000
    ∷ example 1 heavy_above 2 2 400 48200000
    ∷ example 1 sample_sheet 1 1 6400 2628800
    ∷ example 1 sample_sheet 2 2 12800 4185600
    ∷ example 3 mixed 1 1 24000 18724000
    ∷ example 3 mixed 5 2 42000 26086000
    ∷ example 2 mixed 5 2 56000 25080000
    ∷ example 5 mixed 5 2 28000 27800000
    ∷ example 12 mixed 5 2 14000 31642000
    ∷ example 1 mistyped 2 2 12800 4185600
    ∷ example 1 garage_above 2 2 400 20210000
    ∷ []

-- what an example says
unfoldable pub Says : Example → Type 0
Says (example code entries f n x figure) =
    asked_after (member_of code) (entries_of entries) f ≡ gives (working_from n x figure)

-- a member's code, its entries, and of those that are refused how many, the number of the first and its place
pub data Refusing : Type 0 where
  refusing : ℕ → List ℕ → ℕ → ℕ → ℕ → Refusing

-- none refused; three, of which the first has the number 5 at the second place; and no entry looked at where opening is refused
unfoldable pub refusing_examples : List Refusing
refusing_examples =
    refusing 1 sample_sheet 0 0 0
    ∷ refusing 1 mistyped 3 5 2
    ∷ refusing 13 mistyped 0 0 0
    ∷ []

unfoldable pub SaysRefusing : Refusing → Type 0
SaysRefusing (refusing code entries count number place) =
    refusals_after (member_of code) (entries_of entries) ≡ record { count = count; number = number; place = place }

-- the lines of these entries that a member carries at a floor
abbrev pub carried_of : ℕ → List ℕ → ℕ → List Line
carried_of code entries f = carried f (accepted (member_of code) (entries_of entries))

-- a member's code, lines carried, a figure F, and whether it is within the bounds of demand 3
pub data Judged : Type 0 where
  judged : ℕ → List Line → ℕ → Bool → Judged

-- the sample's figure at floor 2
unfoldable pub sample_figure : Judged
sample_figure = judged 1 (carried_of 1 sample_sheet 2) 4185600 true

-- 01, Buyer's note: "the unreduced sum as the figure (demand 3's upper bound stops it)"
unfoldable pub unreduced_sum : Judged
unreduced_sum = judged 1 (carried_of 1 sample_sheet 2) 6400000 false

-- 01, Buyer's note: "lines entered that change nothing (demand 3's lower bound)"
unfoldable pub nothing_changed : Judged
nothing_changed = judged 1 (carried_of 1 sample_sheet 2) 0 false

-- the sample's figure held against all entries of a list, refused ones too
unfoldable pub refused_counted : Judged
refused_counted = judged 1 (carried 2 (entries_of mistyped)) 4185600 false

-- the garage's, which passes E by 2,000: by more than the formula line's area, and by more than a twentieth of the whole area
unfoldable pub garage_figure : Judged
garage_figure = judged 1 (carried_of 1 garage_above 2) 20210000 true

unfoldable pub judgements : List Judged
judgements = sample_figure ∷ unreduced_sum ∷ nothing_changed ∷ refused_counted ∷ garage_figure ∷ []

-- a claim that holds, and one that does not
unfoldable pub Holds : Bool → Type 0 → Type 0
Holds true claim = claim
Holds false claim = claim → ⊥

unfoldable pub SaysJudged : Judged → Type 0
SaysJudged (judged code lines F verdict) = Holds verdict (Bounded (member_of code) lines F)

-- 01, Reduced load and figure: what demand 3 looks at for the sample at floor 2, in numbers; at its X the share is the root
pub record SampleNumbers (lines : List Line) : Type 0 where
  pub X : influence_of (member_of 1) lines ≡ dm² 12800
  pub share : formula_share (floors_of lines) (dm² 12800) ≡ Root (dm² 12800)
  pub T : formula_total lines ≡ 6400000
  pub P20 : twenty_p (floors_of lines) lines ≡ 0
  pub A : area_of lines ≡ 3200
  pub square : sq (914 * 6400000) ≡ 34217820160000000000

-- a figure F for the sample, G and X × G², whether that is at least (914 × T)², G − 20A and X × (G − 20A)², and whether that is
-- below (914 × T)²
pub data Squared : Type 0 where
  squared : ℕ → ℕ → ℕ → Bool → ℕ → ℕ → Bool → Squared

unfoldable pub squared_of : ℕ → Squared
squared_of F =
    let ls = carried_of 1 sample_sheet 2 in
    let T = formula_total ls in
    let P20 = twenty_p (floors_of ls) ls in
    let x = (influence_of (member_of 1) ls).0 in
    let g = G T P20 F in
    let h = GLess20A T P20 (area_of ls) F in
    squared
    F
    g (x * sq g) (leb (sq (914 * T)) (x * sq g))
    h (x * sq h) (ltb (x * sq h) (sq (914 * T)))

-- 01, Buyer's note: "the unreduced sum as the figure (demand 3's upper bound stops it)"; the sample's figure; and "lines
-- entered that change nothing (demand 3's lower bound)", where the paper's G and G − 20A are negative and stand as 0
unfoldable pub squares : List Squared
squares =
    squared 6400000 96000000 117964800000000000000 true 95936000 117807566028800000000 false
    ∷ squared 4185600 51712000 34228876083200000000 true 51648000 34144203571200000000 true
    ∷ squared 0 0 0 false 0 0 true
    ∷ []

unfoldable pub SaysSquared : Squared → Type 0
SaysSquared (squared F g gg low h hh high) = squared_of F ≡ squared F g gg low h hh high
