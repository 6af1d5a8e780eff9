-- The table of a column's workings says what asking at each floor gives.
-- Assumes nothing.
use Rattle.std.proofs.Common.{◌≡◌, refl, sym, ◌∙◌, ap, [], ◌∷◌, ◌++◌, ℕ, zero, suc, ◌≤◌, ◌<◌, lt_of_not-le, arith, get_or}
use Rattle.std.specs.Prelude.{None}
use Rattle.std.proofs.Math.Decide.{dec_le}
use Rattle.std.proofs.Math.ListN.{get_or-append}
use Rattle.std.proofs.Math.Seq.{get_or-append_seam}
use Rattle.refusal.specs.Said.{Said, gives, refused}
use Rattle.column.specs.declared.Column.{Column}
use Rattle.figure.specs.declared.Working.{Working}
use Rattle.figure.specs.Asked.{asked}
use Rattle.figure.specs.Workings.{working_said, workings_of}
use Rattle.figure.proofs.Workings.{workings_length}
use Rattle.report.specs.Report.{floor_line_of, floor_lines}
use Rattle.report.specs.inner.Table.{line_of, table_lines}

-- what holds at a floor stands where its place is
pub workings_at : (c : Column) (top f : ℕ) → f < top → get_or (workings_of c top) f None ≡ working_said (asked c (suc f))
unfolding workings_of
workings_at c zero f h = absurd (omega arith)
workings_at c (suc top) f h =
    elim (dec_le top f) [
      | yes p ↦
          let e : f ≡ top = omega arith in
          let w = working_said (asked c (suc top)) in
          rw e
          (ap (λ (k : ℕ). get_or (workings_of c top ++ (w ∷ [])) k None) (sym (workings_length c top)) ∙ get_or-append_seam (workings_of c top) w [] None)
      | no p ↦ get_or-append (workings_of c top) (working_said (asked c (suc top)) ∷ []) None f (omega (arith, workings_length c top)) ∙ workings_at c top f (lt_of_not-le p)
    ]

-- so a floor's line by the table is that of asking there
line_is : (f : ℕ) (s : Said Working) → line_of f (working_said s) ≡ floor_line_of f s
unfolding line_of floor_line_of working_said
line_is f (gives w) = refl
line_is f (refused n _) = refl

lines_to : (c : Column) (f : ℕ) → f ≤ 64 → table_lines (workings_of c 64) f ≡ floor_lines c f
unfolding table_lines floor_lines
lines_to c zero h = refl
lines_to c (suc f) h = rw (lines_to c f (omega arith), workings_at c 64 f (omega arith), line_is (suc f) (asked c (suc f)))

-- the lines of the table are those of the floors
pub table_lines_lem : (c : Column) → table_lines (workings_of c 64) 64 ≡ floor_lines c 64
table_lines_lem c = lines_to c 64 (omega arith)
