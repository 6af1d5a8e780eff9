-- Paper 01, "Effects and the 25 combinations": the whole answer, from seven numbers or seven doubles to the governing rows.
-- Assumes nothing.
use Rattle.std.specs.Prelude.{◌≡◌, cond, List, [], ◌∷◌, ℤ, Float}
use Rattle.std.specs.Float.{binary64}
use Rattle.std.specs.Float.Ieee.{of_int}
use Rattle.effects.specs.declared.Load.{Load}
use Rattle.effects.specs.declared.PerLoad.{PerLoad}
use Rattle.effects.specs.declared.LoadEffect.{LoadEffect}
use Rattle.refusal.specs.Said.{Told, gives, refused}
use Rattle.newtons.specs.Effect.{value_of, whole, within}
use Rattle.effects.specs.Check.{load_effect, loads, of_load, checked_of}
use Rattle.combination.specs.declared.GoverningRow.{GoverningRow}
use Rattle.combination.specs.declared.Governing.{Governing}
use Rattle.combination.specs.Governing.{greater, less, Best, sums, best}

-- 01, Effects and the 25 combinations: "Results are whole tenths of a newton and also go out as doubles"
abbrev pub row_of : Best → GoverningRow
row_of b = record { row = b.row; tenths = b.tenths; double = of_int binary64 b.tenths }

-- 01, Effects and the 25 combinations: "The governing rows are the greatest and the least sum", each of the rows' sums for it
abbrev pub governing_of : List ℤ → List ℤ → Governing
governing_of high low = record { greatest = row_of (best greater high); least = row_of (best less low) }

-- 01, Effects and the 25 combinations: the governing rows of seven whole numbers, which have one sum a row
unfoldable pub governing : List ℤ → Governing
governing xs = governing_of (sums xs) (sums xs)

-- 01, Numbers by the place of checking: "D to E as listed", 9 and the first load whose number is "beyond ±1,000,000,000,000"
unfoldable pub limited_from : List Load → List ℤ → Governing → Told Load Governing
limited_from (l ∷ ls) (z ∷ zs) g = cond (within z) (limited_from ls zs g) (refused 9 l)
limited_from (l ∷ ls) [] g = gives g
limited_from [] zs g = gives g

-- 01, Effects and the 25 combinations: from seven whole numbers to the governing rows, or the first beyond the limit
unfoldable pub governed : List ℤ → Told Load Governing
governed xs = limited_from loads xs (governing xs)

-- 01, Effects and the 25 combinations: what governs; "A refused effect comes back with the double as it came"
unfoldable pub with_double : PerLoad Float → Told Load Governing → Told (LoadEffect Load) Governing
with_double e (gives g) = gives g
with_double e (refused n l) = refused n (load_effect l (of_load e l))

-- 01, Numbers by the place of checking: what governs of effects that are taken, or the first refused
unfoldable pub combined : PerLoad Float → Told (LoadEffect Load) (List ℤ) → Told (LoadEffect Load) Governing
combined e (gives xs) = with_double e (governed xs)
combined e (refused n x) = refused n x

-- 01, Effects and the 25 combinations: from seven doubles to the governing rows, the check and then what governs
unfoldable pub combined_of : PerLoad Float → Told (LoadEffect Load) Governing
combined_of e = combined e (checked_of e)

-- 01, Effects and the 25 combinations: "with nothing lost"; each double's value is the whole number
pub record Exact (r : GoverningRow) : Type 0 where
  pub is : value_of r.double ≡ whole r.tenths

-- 01, Effects and the 25 combinations: "with nothing lost", of both governing sums; a refusal has none
unfoldable pub NothingLost : {Back : Type 0} → Told Back Governing → Type 0
NothingLost (gives g) = Exact g.greatest × Exact g.least
NothingLost (refused n e) = Unit {0}
