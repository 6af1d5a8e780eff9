-- What writing a sheet back gives: its text, for which the buffer always has room.
-- Assumes nothing.
use Rattle.std.proofs.Common.{◌≡◌, ◌∙◌, ap, ℕ, ◌≤◌, arith, length, le-leb}
use Rattle.refusal.specs.Said.{gives}
use Rattle.column.specs.Seen.{column_seen}
use Rattle.sheet.specs.declared.lent.SheetRef.{SheetRef}
use Rattle.sheet.specs.Keeps.{EffectsWithin}
use Rattle.sheet.specs.Seen.{sheet_seen}
use Rattle.sheet.proofs.Seen.{seen_keeps}
use Rattle.sheet_text.specs.Written.{written}
use Rattle.sheet_writer.specs.declared.SheetDoubles.{SheetDoubles}
use Rattle.sheet_writer.specs.Saving.{six_checked, saving, sized}
use Rattle.sheet_writer.proofs.Checks.{saving_whole, with_room}
use Rattle.sheet_writer.proofs.Sizes.{written_most}

module _ (s : SheetRef) (e : SheetDoubles) (room : ℕ) (taken : six_checked e ≡ gives s.effects) (within : EffectsWithin s.effects) (most : 12288 ≤ room) where
  pub back_told : saving (column_seen s.column) e room ≡ gives (written (sheet_seen s))
  back_told =
      let longest = written_most (sheet_seen s) (seen_keeps s within) in
      saving_whole (column_seen s.column) e room taken ∙ with_room room (written (sheet_seen s)) (le-leb _ room (omega (arith, longest, most)))

  pub back_sized : sized (saving (column_seen s.column) e room) ≡ gives (length (written (sheet_seen s)))
  unfolding sized
  back_sized = ap sized back_told
