-- How long the printed lines are, and that all of them find room in 4096 bytes.
-- Assumes nothing.
use Rattle.std.proofs.Common.{◌≡◌, refl, Bool, List, ℕ, zero, suc, ◌+◌, ◌*◌, ◌≤◌, arith, ℤ, nat_abs, length, length-append, w64, Fits}
use Rattle.std.proofs.Math.Path.{subst⁻¹}
use Rattle.text.specs.Text.{bytes_of, joined, decimal, signed_decimal}
use Rattle.text.proofs.Puts.{joined_append, joined_length}
use Rattle.text.proofs.Decimal.{length_most}
use Rattle.text.proofs.Sign.{signed_length}
use Rattle.refusal.specs.Said.{Said, gives, refused}
use Rattle.column.specs.declared.Column.{Column}
use Rattle.figure.specs.declared.Working.{Working}
use Rattle.column.specs.Column.{Reached}
use Rattle.figure.specs.Asked.{asked}
use Rattle.figure.specs.theorems.Most.{Most}
use Rattle.figure.proofs.Most.{asked_most}
use Rattle.effects.specs.Check.{newtons_of}
use Rattle.newtons.specs.Effect.{limit}
use Rattle.effects.specs.inner.Sized.{Seven}
use Rattle.combination.specs.declared.GoverningRow.{GoverningRow}
use Rattle.combination.specs.declared.Governing.{Governing}
use Rattle.combination.specs.Governing.{sums}
use Rattle.combination.specs.theorems.Governs.{Governs}
use Rattle.combination.specs.Combine.{governing}
use Rattle.combination.proofs.RowSums.{most_sum}
use Rattle.combination.proofs.Table.{sums_length, sums_small}
use Rattle.combination.proofs.Answers.{rows_govern}
use Rattle.sheet.specs.declared.Sheet.{Sheet}
use Rattle.sheet.specs.Keeps.{Keeps}
use Rattle.report.specs.Report.{floor_line, floor_line_of, floor_lines, effects_of, governing_line, governing_lines, takedown_of, refusal_line}
use Rattle.report.proofs.Live.{seven_within}

-- the length of a floor's line, by the numbers in it
pub floor_length : (f : ℕ) (w : Working)
    → length (joined (floor_line f w)) ≡ 34 + (length (decimal f) + length (decimal w.floors) + length (decimal w.influence.0) + length (decimal w.figure))
unfolding floor_line joined
floor_length f w = simp length-append (omega arith)

-- the length of a governing sum's line
pub governing_length : (key : List ℕ) (g : GoverningRow)
    → length (joined (governing_line key g)) ≡ 6 + (length key + length (signed_decimal g.tenths) + length (decimal g.row))
unfolding governing_line joined
governing_length key g = simp (length-append, joined_append) (omega arith)

-- the length of a refusal's line
pub refusal_length : (n k : ℕ) → length (joined (refusal_line n k)) ≡ 15 + (length (decimal n) + length (decimal k))
unfolding refusal_line joined
refusal_length n k = simp length-append (omega arith)

-- the line of a floor has at most 61 bytes
floor_most : (f : ℕ) (w : Working) → f ≤ 64 → Most w → length (joined (floor_line f w)) ≤ 61
floor_most f w h m =
    omega (
      arith,
      floor_length f w,
      length_most 1 f (omega arith),
      length_most 2 w.floors (omega (arith, m.floors)),
      length_most 8 w.influence.0 (omega (arith, m.influence)),
      length_most 12 w.figure (omega (arith, m.figure)),
    )

line_most : (c : Column) (f : ℕ) → f ≤ 64 → Reached c → length (joined (floor_line_of f (asked c f))) ≤ 61
unfolding floor_line_of joined
line_most c f h r = go (asked c f) refl
  where
    go : (s : Said Working) → asked c f ≡ s → length (joined (floor_line_of f s)) ≤ 61
    go (gives w) e = floor_most f w h (asked_most f r e)
    go (refused n _) e = omega arith

floors_most : (c : Column) (f : ℕ) → f ≤ 64 → Reached c → length (joined (floor_lines c f)) ≤ 61 * f
unfolding floor_lines joined
floors_most c zero h r = omega arith
floors_most c (suc f) h r =
    omega (arith, joined_length (floor_lines c f) (floor_line_of (suc f) (asked c (suc f))), floors_most c f (omega arith) r, line_most c (suc f) h r)

-- the length of both governing lines, by the numbers in them
pub governings_length : (g : Governing)
    → length (joined (governing_lines g))
    ≡ 20
    + (length (signed_decimal g.greatest.tenths) + length (decimal g.greatest.row))
    + (length (signed_decimal g.least.tenths) + length (decimal g.least.row))
unfolding governing_lines
governings_length g =
    let a = governing_line (bytes_of "max=") g.greatest in
    let b = governing_line (bytes_of "min=") g.least in
    omega (arith, joined_length a b, governing_length (bytes_of "max=") g.greatest, governing_length (bytes_of "min=") g.least)

-- a governing sum has at most 15 digits and a sign, and its row 2
governs_most : {beats : ℤ → ℤ → Bool} (xs : List ℤ) (g : GoverningRow) → Seven limit xs
    → Governs beats (sums xs) g.row g.tenths → length (signed_decimal g.tenths) + length (decimal g.row) ≤ 18
governs_most xs g s v =
    let small : nat_abs g.tenths ≤ most_sum = subst⁻¹ (λ (z : ℤ). nat_abs z ≤ most_sum) v.sum_is (sums_small xs s v.index) in
    omega (
      arith,
      signed_length g.tenths,
      length_most 14 (nat_abs g.tenths) (omega (arith, small)),
      length_most 1 g.row (omega (arith, v.row_is, v.among, sums_length xs)),
    )

-- so a takedown has at most 64 × 61 + 2 × 28 bytes
pub takedown_most : (s : Sheet) → Keeps s → length (joined (takedown_of s)) ≤ 3960
unfolding takedown_of
takedown_most s k =
    let xs = newtons_of (effects_of s) in
    let within = seven_within s k in
    let rows = rows_govern xs in
    omega (
      arith,
      joined_length (floor_lines s.column 64) (governing_lines (governing xs)),
      floors_most s.column 64 (omega arith) k.column,
      governings_length (governing xs),
      governs_most xs (governing xs).greatest within rows.greatest,
      governs_most xs (governing xs).least within rows.least,
    )

-- a refusal has at most 55 bytes
pub refusal_most : (n k : ℕ) → Fits w64 n → Fits w64 k → length (joined (refusal_line n k)) ≤ 55
refusal_most n k p q = omega (arith, refusal_length n k, length_most 19 n (omega (arith, p.fits)), length_most 19 k (omega (arith, q.fits)))
