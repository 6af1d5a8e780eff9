-- `report::takedown::put_floor` meets its contract: nothing is put where no line has the floor. Assumes nothing.
use Rattle.std.proofs.Common.{◌≡◌, refl, [], ℕ}
use Rattle.std.specs.Prelude.{Option, Some, None}
use Rattle.text.specs.Put.{put_all}
use Rattle.figure.specs.declared.Working.{Working}
use Rattle.report.specs.inner.Table.{line_of}
use Rattle.report.proofs.takedown.put_floor.Goals as goal

no_line : (f : ℕ) (o : Option Working) → ((w : Working) → o ≡ Some w → ⊥) → line_of f o ≡ []
unfolding line_of
no_line f (Some w) h = absurd (h w refl)
no_line f None h = refl

pub returns-in-Some : goal.returns-in-Some
unfolding line_of
returns-in-Some c = rw c.in-Some.is c.put_floor_line.ensures

pub returns-in_default : goal.returns-in_default
unfolding put_all
returns-in_default c = rw (no_line c.args.floor c.args.working c.in_default.not-Some)
