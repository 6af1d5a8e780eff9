-- The seven effects of a sheet: the live effect is that of the column, and all are within the limit, so 64 bits keep them.
-- Assumes nothing.
use Rattle.std.proofs.Common.{◌≡◌, refl, List, ℕ, ◌≤◌, arith, lit<, ℤ, pos, nat_abs, w64, to_z, of_z}
use Rattle.lists.specs.Lists.{none, more}
use Rattle.lists.proofs.Lists.{all_at}
use Rattle.column.specs.declared.Column.{Column}
use Rattle.column.specs.Column.{Reached}
use Rattle.figure.proofs.Lowest.{lowest_most}
use Rattle.newtons.specs.Effect.{limit}
use Rattle.effects.specs.Check.{newtons_of}
use Rattle.effects.specs.inner.Sized.{Seven}
use Rattle.newtons.proofs.Word.{kept}
use Rattle.sheet.specs.declared.Sheet.{Sheet}
use Rattle.sheet.specs.Keeps.{EffectsWithin, Keeps}
use Rattle.sheet.proofs.Kept.{each_within}
use Rattle.report.specs.Report.{live_of, effects_with, effects_of}

-- the live effect is within the limit
pub live_most : {c : Column} → Reached c → live_of c ≤ limit
unfolding live_of
live_most r = omega (arith, lowest_most r)

-- all seven are within the limit
pub seven_with : (e : List ℤ) (live : ℕ) → EffectsWithin e → live ≤ limit → Seven limit (newtons_of (effects_with e live))
unfolding newtons_of effects_with
seven_with e live k h =
    record {
      count = refl;
      each = (let w = each_within k in all_at {P = λ z. nat_abs z ≤ limit} (pos 0) (omega arith) (more (w 0) (more {x = pos live} h (more (w 1) (more (w 2) (more (w 3) (more (w 4) (more (w 5) none))))))));
    }

pub seven_within : (s : Sheet) → Keeps s → Seven limit (newtons_of (effects_of s))
unfolding effects_of
seven_within s k = seven_with s.effects (live_of s.column) k.effects (live_most k.column)

-- 64 bits keep an effect within the limit
pub effect_kept : (z : ℤ) → nat_abs z ≤ limit → to_z w64 (of_z w64 z) ≡ z
effect_kept z h = kept h (lit< tt)
