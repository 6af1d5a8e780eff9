-- `figure::lines::Lines::floors` meets its contract: the loop has found the floors of the lines so far. Assumes nothing.
use Rattle.std.proofs.Common.{◌≡◌, refl, sym, ◌∙◌, ap, arith, ℕ, ◌+◌, [], ◌∷◌, ◌++◌, map, take}
use Rattle.column.specs.declared.Line.{Line}
use Rattle.column.specs.Line.{unpacked}
use Rattle.column.specs.Accepted.{last_floor}
use Rattle.column.specs.inner.Sound.{line_at}
use Rattle.column.proofs.Lines.{last_more}
use Rattle.figure.specs.Carried.{floors_of}
use Rattle.figure.specs.inner.Totals.{Ordered}
use Rattle.figure.proofs.Order.{floors_same, floors_new}
use Rattle.figure.proofs.HeldLines.{next_line, ordered_take, line_within, lines_ordered}
use Rattle.figure.proofs.lines.Lines.floors.Goals as goal
use Rattle.figure.proofs.lines.Lines.floors.Goals.{then-here-above, else-here-above}

pub loop-line-init : goal.loop-line-init
unfolding floors_of last_floor
loop-line-init c = (omega arith, refl, refl)

pub loop-line-preserved : goal.loop-line-preserved
loop-line-preserved c =
    let ns = c.args.self.numbers.now in
    let i = c.loop-line.line-index in
    let ls = map unpacked (take i ns) in
    let l = line_at ns i in
    let h = c.loop-line.invariant in
    let more = next_line ns i c.loop-line-test.true in
    let o : Ordered (ls ++ (l ∷ [])) = rw more at (ordered_take (i + 1) ns (lines_ordered c.args.self)) in
    let here : c.line_of-here.result.floor ≡ l.floor = ap (λ (k : Line). k.floor) c.line_of-here.ensures in
    let last : c.line_of-here.result.floor ≡ last_floor (ls ++ (l ∷ [])) = here ∙ sym (last_more ls l) in
    elim c.if-here-above.branch [
      | then-here-above w ↦ (
        omega (arith, w.floors-is, h.0),
        w.floors-is ∙ (ap (λ (n : ℕ). n + 1) h.1 ∙ sym (ap floors_of more ∙ floors_new ls l o (λ e. w.if-here-above.true (here ∙ (e ∙ sym h.2))))),
        w.above-is ∙ (last ∙ ap last_floor (sym more)),
      )
      | else-here-above w ↦ (
        omega (arith, w.floors-is, h.0),
        w.floors-is ∙ (h.1 ∙ sym (ap floors_of more ∙ floors_same ls l ((line_within c.args.self i 0 c.loop-line-test.true).floor.0) (sym here ∙ (w.if-here-above.false ∙ h.2)))),
        w.above-is ∙ (last ∙ ap last_floor (sym more)),
      )
    ]
