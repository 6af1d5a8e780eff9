-- `figure::any_order::floors_marked` meets its contract: the loop has found the floors of the lines so far. Assumes nothing.
use Rattle.std.proofs.Common.{◌≡◌, arith, ℕ, ◌+◌, Bool, true, false, cond, map, take, get_or, set}
use Rattle.column.specs.Line.{unpacked}
use Rattle.column.specs.inner.Sound.{line_at}
use Rattle.figure.proofs.HeldLines.{next_line}
use Rattle.figure.proofs.Marked.{Found, found_none, found_more}
use Rattle.figure.proofs.any_order.floors_marked.Goals as goal
use Rattle.figure.proofs.any_order.floors_marked.Goals.{then-not-seen-at, else-not-seen-at}

pub loop-line-init : goal.loop-line-init
loop-line-init c = (omega arith, found_none)

pub loop-line-preserved : goal.loop-line-preserved
loop-line-preserved c =
    let ns = c.args.lines.now in
    let i = c.loop-line.line-index in
    let seen = c.loop-line.seen in
    let l = line_at ns i in
    let at : c.floor_of-at.result ≡ l.floor = c.floor_of-at.ensures in
    let more : (b : Bool) → get_or seen c.floor_of-at.result false ≡ b → (n : ℕ) → n ≡ c.loop-line.floors + cond b 0 1 → Found (map unpacked (take (i + 1) ns)) (set seen c.floor_of-at.result true) n =
    λ b e n q. rw (next_line ns i c.loop-line-test.true, q, ← e, at) (found_more l (c.requires.1 i 0 c.loop-line-test.true).floor.1 c.loop-line.invariant.1) in
    elim c.if-not-seen-at.branch [
      | then-not-seen-at w ↦ (omega (arith, w.floors-is, c.loop-line.invariant.0), more false w.if-not-seen-at.true _ w.floors-is)
      | else-not-seen-at w ↦ (omega (arith, w.floors-is, c.loop-line.invariant.0), more true w.if-not-seen-at.false _ (omega (arith, w.floors-is)))
    ]
