-- Paper 01, "The sheet" and "Effects and the 25 combinations": a sheet that keeps the limits.
-- Assumes nothing.
use Rattle.std.specs.Prelude.{◌≡◌, List, ◌≤◌, ℤ, length}
use Rattle.lists.specs.Lists.{All}
use Rattle.column.specs.Column.{Reached}
use Rattle.newtons.specs.Effect.{magnitude_of, limit}
use Rattle.sheet_lines.specs.Form.{effect_count}
use Rattle.sheet.specs.declared.Sheet.{Sheet}

-- 01, Effects and the 25 combinations: six, each "within ±1,000,000,000,000"
pub record EffectsWithin (es : List ℤ) : Type 0 where
  pub count : length es ≡ effect_count
  pub each : All (λ z. magnitude_of z ≤ limit) es

-- 01, The sheet: a sheet that keeps the limits: its column is one that "opening a member and the calls on it gave" (Member,
-- line, floor), and its effects are within theirs
pub record Keeps (s : Sheet) : Type 0 where
  pub column : Reached s.column
  pub effects : EffectsWithin s.effects
