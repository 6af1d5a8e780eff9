-- `combination::search::governing_row` meets its contract: searching the sums from index i on gives what the whole search gives.
-- Assumes nothing.
use Rattle.std.proofs.Common.{◌≡◌, ◌+◌, sym, ◌∙◌, ap, arith, rules, lit<, pos, get_or, w64, to_z, of_z}
use Rattle.newtons.proofs.Word.{kept}
use Rattle.combination.specs.Governing.{Best}
use Rattle.combination.specs.Combine.{row_of}
use Rattle.combination.proofs.Governs.{best_begin, best_turn, best_end}
use Rattle.combination.proofs.search.governing_row.Goals as goal
use Rattle.combination.proofs.search.governing_row.Goals.{then-beats, else-beats}

pub loop-i-init : goal.loop-i-init
loop-i-init g c =
    let sums = c.args.sums.now in
    let held = sums.held in
    let first : to_z w64 (of_z w64 (get_or sums.tenths 0 (pos 0))) ≡ get_or sums.tenths 0 (pos 0) = kept (held.each 0) (lit< tt) in
    rw first (record { held = omega (arith, held.each 0); best = λ test d. best_begin test _ (omega (arith, held.count)) })

pub loop-i-preserved : goal.loop-i-preserved
loop-i-preserved g c =
    let sums = c.args.sums.now in
    let i = c.loop-i.i in
    let found : Best = record { row = c.loop-i.row; tenths = to_z w64 c.loop-i.tenths-bits } in
    let sum : to_z w64 (of_z w64 (get_or sums.tenths i (pos 0))) ≡ get_or sums.tenths i (pos 0) = kept (sums.held.each i) (lit< tt) in
    record {
      held = elim c.if-beats.branch [ then-beats w ↦ rw (w.tenths-is, sum) (omega (arith, sums.held.each i)) | else-beats w ↦ rw w.tenths-is c.loop-i.invariant.held ];
      best = λ test d.
          best_turn test sums.tenths i found (omega (arith, sums.held.count)) sum (d _ _ c.beats.result (search rules) (search rules) c.beats.ensures)
          (elim c.if-beats.branch [ then-beats w ↦ rw (w.if-beats.true, w.row-is, w.tenths-is) | else-beats w ↦ rw (w.if-beats.false, w.row-is, w.tenths-is) ])
          (c.loop-i.invariant.best test d);
    }

pub returns : goal.returns
returns g c test d =
    ap row_of (sym (best_end test _ _ (c.loop-i.i + 1) c.loop-i.i (omega (arith, c.args.sums.now.held.count))) ∙ c.loop-i.invariant.best test d)
