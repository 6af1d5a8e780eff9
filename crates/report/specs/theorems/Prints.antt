-- Paper 01, "The sheet": what takedown prints, and what the report puts.
-- Assumes nothing.
use Rattle.std.specs.Prelude.{◌≡◌, List, ℕ, ◌≤◌}
use Rattle.report.specs.Report.{report_of, put_of, reported_of, refusal_text}

-- 01, The sheet: what takedown prints is what the report puts where the number is 0, and else the line of its number and K
pub record Prints (text : List ℕ) : Type 0 where
  pub read : (reported_of text).number ≡ 0 → report_of text ≡ put_of text
  pub refused : 1 ≤ (reported_of text).number → report_of text ≡ refusal_text (reported_of text).number (reported_of text).line
