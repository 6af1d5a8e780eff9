-- What reading, reporting and writing promise of their answers, of the structs of numbers that C and Rust are given.
-- Assumes nothing.
use Rattle.std.proofs.Common.{◌≡◌, ap, ◌∙◌, List, ℕ, arith, Option, Ok, Err, refl}
use Rattle.std.specs.Prelude.{Result, IfOk}
use Rattle.std.proofs.Math.Path.{subst⁻¹}
use Rattle.io.specs.Counts.{IsPrefixLen}
use Rattle.refusal.specs.declared.Refused.{Refused}
use Rattle.refusal.specs.Said.{Told, told}
use Rattle.sheet.specs.Sheet.{read_sheet}
use Rattle.sheet.specs.Keeps.{Keeps}
use Rattle.sheet.proofs.Kept.{read_keeps}
use Rattle.report.specs.declared.TakenDown.{TakenDown}
use Rattle.report.specs.Report.{reported_told}
use Rattle.sheet_writer.specs.Saving.{Placed, sized, saved_of}
use Rattle.sheet_writer.proofs.Checks.{written_is, refused_is}
use Rattle.exports.specs.declared.reports.BungeroReported.{BungeroReported}
use Rattle.exports.specs.declared.sheets.BungeroReading.{BungeroReading}
use Rattle.exports.specs.declared.sheets.BungeroWritten.{BungeroWritten}
use Rattle.exports.specs.Exported.{shown_reading, shown_report, shown_written, written_told}

-- a sheet that is read keeps the limits
pub reading_keeps : (text : List ℕ) (x : BungeroReading) → x ≡ shown_reading (read_sheet text) → x.number ≡ 0 → Keeps x.sheet
unfolding shown_reading
reading_keeps text x e = subst⁻¹ (λ (y : BungeroReading). y.number ≡ 0 → Keeps y.sheet) e (read_keeps text)

-- the length is that of the bytes that are put, where none are put too
pub reported_counts : (r : Result TakenDown (Refused ℕ)) (x : BungeroReported) (out : List ℕ) → x ≡ shown_report (reported_told r)
    → IfOk r (λ t. IsPrefixLen t.length out) → IsPrefixLen x.length out
unfolding shown_report reported_told
reported_counts (Ok t) x out e h = subst⁻¹ (λ (y : BungeroReported). IsPrefixLen y.length out) e h
reported_counts (Err r) x out e h = subst⁻¹ (λ (y : BungeroReported). IsPrefixLen y.length out) e (omega arith, refl)

pub written_counts : (r : Result ℕ (Refused (Option Placed))) (x : BungeroWritten) (out : List ℕ) → x ≡ shown_written (written_told r)
    → IfOk r (λ n. IsPrefixLen n out) → IsPrefixLen x.length out
unfolding shown_written written_told
written_counts (Ok n) x out e h = subst⁻¹ (λ (y : BungeroWritten). IsPrefixLen y.length out) e h
written_counts (Err r) x out e h = subst⁻¹ (λ (y : BungeroWritten). IsPrefixLen y.length out) e (omega arith, refl)

-- what writing answers, in numbers alone
pub written_shown : (t : Told (Option Placed) (List ℕ)) (r : Result ℕ (Refused (Option Placed))) (x : BungeroWritten)
    → x ≡ shown_written (written_told r) → told r ≡ sized t → x ≡ shown_written (saved_of t)
unfolding written_told
written_shown t (Ok n) x e h = e ∙ ap shown_written (written_is t h)
written_shown t (Err r) x e h = e ∙ ap shown_written (refused_is t r h)
