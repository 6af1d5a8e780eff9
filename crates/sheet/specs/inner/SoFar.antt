-- A sheet that keeps the limits as far as it was read.
-- Assumes nothing.
use Rattle.std.specs.Prelude.{◌≡◌}
use Rattle.column.specs.declared.Column.{Column}
use Rattle.column.specs.Column.{unopened, Reached}
use Rattle.sheet_lines.specs.declared.Due.{Due}
use Rattle.sheet_lines.specs.declared.Due.TheVariants as D
use Rattle.sheet.specs.declared.Sheet.{Sheet}
use Rattle.sheet.specs.Keeps.{EffectsWithin}

-- where this is due: before its member there is no column, and after it a column that opening and entering gave
unfoldable pub KeepsColumn : Due → Column → Type 0
KeepsColumn D.Member c = c ≡ unopened
KeepsColumn (D.Effect k) c = Reached c

-- a sheet as far as it was read keeps the limits
pub record KeepsSoFar (due : Due) (s : Sheet) : Type 0 where
  pub column : KeepsColumn due s.column
  pub effects : EffectsWithin s.effects
