-- A sheet that is lent keeps the limits where its effects do.
-- Assumes nothing.
use Rattle.column.proofs.Seen.{seen_reached}
use Rattle.sheet.specs.declared.lent.SheetRef.{SheetRef}
use Rattle.sheet.specs.Keeps.{EffectsWithin, Keeps}
use Rattle.sheet.specs.Seen.{sheet_seen}

-- a sheet that is lent keeps the limits where its effects are within theirs
pub seen_keeps : (s : SheetRef) → EffectsWithin s.effects → Keeps (sheet_seen s)
seen_keeps s w = record { column = seen_reached s.column; effects = w }
