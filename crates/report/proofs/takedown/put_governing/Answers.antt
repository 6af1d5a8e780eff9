-- `report::takedown::put_governing` meets its contract: whole effects within the limit have governing rows. Assumes nothing.
use Rattle.std.proofs.Common.{◌≡◌, ◌∙◌}
use Rattle.text.proofs.Puts.{put_then}
use Rattle.refusal.specs.Said.{gives, told}
use Rattle.refusal.proofs.Said.{told_gives_it, told_is_given}
use Rattle.effects.specs.Check.{newtons_of}
use Rattle.combination.specs.Combine.{governing}
use Rattle.combination.proofs.Answers.{newtons_governed}
use Rattle.report.specs.Report.{governing_lines}
use Rattle.report.proofs.takedown.put_governing.Goals as goal
use Rattle.report.proofs.takedown.put_governing.Goals.{After-govern}

-- the rows that govern the sheet's effects
answered : (c : After-govern) → told c.govern.result ≡ gives (governing (newtons_of c.args.newtons))
answered c = c.govern.ensures.0 ∙ newtons_governed c.args.newtons c.requires

pub unreachable-requires : goal.unreachable-requires
unreachable-requires c = c.in_default.not-Ok _ (told_is_given _ (answered (goal.at.unreachable-requires c).After-govern))

pub returns : goal.returns
unfolding governing_lines
returns c =
    rw (← told_gives_it c.in-Ok.is (answered (goal.at.returns c).After-govern), c.put_governing_line-2.ensures, c.put_governing_line.ensures) (put_then _ _ _ _)
