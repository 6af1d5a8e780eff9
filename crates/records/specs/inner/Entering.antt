-- What entering a list of lines gives, one after another; laws say it too.
-- Assumes nothing.
use Rattle.std.specs.Prelude.{cond, List, [], ◌∷◌, ℕ, ◌+◌, eqb, Result, Ok, Err}
use Rattle.refusal.specs.declared.Refused.{Refused}
use Rattle.refusal.specs.Refusal.{number_of}
use Rattle.refusal.specs.Said.{Told, gives, refused}
use Rattle.column.specs.declared.Line.{Line}
use Rattle.column.specs.declared.Column.{Column}
use Rattle.column.specs.Column.{entered_of}
use Rattle.figure.specs.declared.Working.{Working}
use Rattle.figure.specs.Asked.{asked}
use Rattle.records.specs.Listed.{at_place}

-- all the lines in order, of which the first has this place: the column then, or the first refusal
unfoldable pub entered_from : ℕ → Column → List Line → Told ℕ Column
entered_from place c [] = gives c
entered_from place c (l ∷ ls) =
    cond {A = Told ℕ Column} (eqb (entered_of c l).number 0)
    (entered_from (place + 1) (entered_of c l).column ls)
    (refused (entered_of c l).number place)

-- what entering them says, with the column then
unfoldable pub entering_told : Result (Unit {0}) (Refused ℕ) → Column → Told ℕ Column
entering_told (Ok _) c = gives c
entering_told (Err r) c = refused (number_of r.refusal) r.back

-- after the lines: the first refusal, or what asking at the floor gives
unfoldable pub then_asked : Told ℕ Column → ℕ → Told ℕ Working
then_asked (gives c) f = at_place 0 (asked c f)
then_asked (refused n place) f = refused n place
