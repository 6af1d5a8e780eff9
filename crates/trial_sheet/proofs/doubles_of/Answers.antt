-- `trial_sheet::doubles_of` meets its contract: whole newtons within the limit are doubles. Assumes nothing.
use Rattle.std.proofs.Common.{◌≡◌, ◌∙◌, ap, ℕ, pos, get_or, w64, to_z, of_z}
use Rattle.std.specs.Float.Ieee.{binary64, of_int}
use Rattle.report.proofs.Live.{effect_kept}
use Rattle.sheet.proofs.Kept.{each_within}
use Rattle.sheet_writer.specs.Saving.{six_checked}
use Rattle.sheet_writer.specs.theorems.RoundTrip.{sheet_doubles_of}
use Rattle.sheet_writer.proofs.RoundTrip.{six_taken}
use Rattle.trial_sheet.proofs.doubles_of.Goals as goal

pub returns : goal.returns
unfolding sheet_doubles_of
returns c =
    let s = c.args.sheet in
    let at : (k : ℕ) → of_int binary64 (to_z w64 (of_z w64 (get_or s.effects k (pos 0)))) ≡ of_int binary64 (get_or s.effects k (pos 0)) =
    λ k. ap (of_int binary64) (effect_kept (get_or s.effects k (pos 0)) (each_within c.requires k)) in
    ap six_checked (λ i. record { dead = at 0 i; roof = at 1 i; snow = at 2 i; rain = at 3 i; wind = at 4 i; quake = at 5 i }) ∙ six_taken s.effects c.requires
