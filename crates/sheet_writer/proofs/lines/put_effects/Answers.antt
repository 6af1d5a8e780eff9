-- `sheet_writer::lines::put_effects` meets its contract: the six effects in order. Assumes nothing.
use Rattle.std.proofs.Common.{◌≡◌, ℕ, get_or, pos, lit<, w64, to_z, of_z}
use Rattle.newtons.proofs.Word.{kept}
use Rattle.sheet.proofs.Kept.{each_within}
use Rattle.text.proofs.Puts.{put_then}
use Rattle.sheet_writer.proofs.Texts.{effects_parts_lem}
use Rattle.sheet_writer.proofs.lines.put_effects.Goals as goal

pub returns : goal.returns
returns g c =
    let within = c.requires in
    let at : (k : ℕ) → to_z w64 (of_z w64 (get_or c.args.sheet.effects k (pos 0))) ≡ get_or c.args.sheet.effects k (pos 0) = λ k. kept (each_within within k) (lit< tt) in
    rw (effects_parts_lem c.args.sheet.effects within.count, ← put_then, ← put_then, ← put_then, ← put_then, ← put_then)
    (rw (c.put_effect-6.ensures, c.put_effect-5.ensures, c.put_effect-4.ensures, c.put_effect-3.ensures, c.put_effect-2.ensures, c.put_effect.ensures, at 0, at 1, at 2, at 3, at 4, at 5))
