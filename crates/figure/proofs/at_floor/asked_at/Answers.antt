-- `figure::at_floor::asked_at` meets its contract: each way out picks its case of the definition. Assumes nothing.
use Rattle.std.proofs.Common.{◌≡◌, ◌∙◌, ℕ, List, map, true, false, Err, rules}
use Rattle.refusal.specs.Said.{said, gives}
use Rattle.refusal.specs.declared.Refusal.TheVariants.{NoLineAtFloor}
use Rattle.refusal.specs.Refusal.{number_of}
use Rattle.lists.specs.Lists.{total}
use Rattle.column.specs.declared.Line.{Line}
use Rattle.column.specs.declared.Member.{Member}
use Rattle.column.specs.Line.{unpacked}
use Rattle.column.proofs.Reach.{sound}
use Rattle.column.proofs.Seen.{seen_reached}
use Rattle.figure.specs.Carried.{formula_lines, carried, has_floor, floors_of, area_of, influence_from, influence_of}
use Rattle.figure.specs.Figure.{figure_of}
use Rattle.figure.specs.Asked.{working_of, asked_of}
use Rattle.figure.specs.declared.shares.Shares.{Shares}
use Rattle.figure.specs.inner.Front.{Front}
use Rattle.figure.specs.inner.Shared.{figure_by, SharesOf}
use Rattle.figure.proofs.HeldLines.{areas_total, figures_total}
use Rattle.figure.proofs.at_floor.asked_at.Goals as goal

pub returns-in_err-carried : goal.returns-in_err-carried
unfolding said asked_of number_of
returns-in_err-carried c =
    let none : has_floor c.args.floor (map unpacked c.of-lines.result.numbers.now) ≡ false = rw c.in_err-carried.ensures.ok_part at c.carried_at.ensures in
    let refused : c.from_residual.result ≡ Err NoLineAtFloor = search rules in
    rw (refused, ← c.of-lines.ensures, none)

pub shares_at-shares-requires : goal.shares_at-shares-requires
shares_at-shares-requires c = ((sound (seen_reached c.args.column)).code, c.area.ensures.1)

-- what was counted and summed of the lines carried is what asking gives
summed : (m : Member) (ls front : List Line) (f : ℕ) (s : Shares) {n area figure : ℕ} → has_floor f ls ≡ true → carried f ls ≡ front
    → n ≡ floors_of front → area ≡ area_of (formula_lines front) → SharesOf n (influence_from m area) s → figure ≡ total (figure_by s) front
    → gives (record { floors = s.carried.floors; influence = s.carried.influence; figure = figure }) ≡ asked_of m ls f
unfolding asked_of working_of figure_of influence_of
summed m ls front f s has front-is floors area shares figure = rw (has, front-is, figure) (rw (shares.0, shares.1, area, floors))

pub returns : goal.returns
unfolding said
returns c =
    let lines = c.of-lines.result.numbers.now in
    let ns = c.in_ok-carried.carried.numbers.now in
    let f : Front c.args.floor lines ns = rw c.in_ok-carried.ensures.ok_part at c.carried_at.ensures in
    rw (← c.of-lines.ensures)
    (summed c.args.column.member (map unpacked lines) (map unpacked ns) c.args.floor c.shares_at-shares.result f.has f.carries c.floors.ensures
    (c.area.ensures.0 ∙ areas_total ns) c.shares_at-shares.ensures (c.figure-figure.ensures ∙ figures_total c.shares_at-shares.result ns))
