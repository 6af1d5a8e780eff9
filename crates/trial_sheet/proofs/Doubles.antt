-- A double keeps each effect of a sheet that is lent.
-- Assumes nothing.
use Rattle.std.proofs.Common.{ℕ, arith, pos, get_or, w64, to_z, of_z}
use Rattle.std.specs.Float.Ieee.{in_float, binary64}
use Rattle.std.proofs.Math.Dec.{T}
use Rattle.newtons.proofs.Values.{in_float_lem}
use Rattle.report.proofs.Live.{effect_kept}
use Rattle.sheet.specs.declared.lent.SheetRef.{SheetRef}
use Rattle.sheet.specs.Keeps.{EffectsWithin}
use Rattle.sheet.proofs.Kept.{each_within}

pub exact : (s : SheetRef) → EffectsWithin s.effects → (k : ℕ) → T (in_float binary64 (to_z w64 (of_z w64 (get_or s.effects k (pos 0)))))
exact s e k =
    let w = each_within e k in
    rw (effect_kept _ w) (in_float_lem _ (omega (arith, w)))
