-- A list of lines entered one after another: none of them is refused, or there is a first that is.
-- Assumes nothing.
use Rattle.std.proofs.Common.{◌≡◌, refl, ap, List, [], ◌∷◌, ◌⊎◌, inl, inr}
use Rattle.refusal.proofs.Said.{by_number}
use Rattle.column.specs.declared.Line.{Line}
use Rattle.column.specs.declared.Column.{Column}
use Rattle.column.specs.Column.{entered_of, after}
use Rattle.column.specs.theorems.Entering.{NoneRefused, none, more, Stops, EveryList}

-- a line that is entered before a list
onward : (c : Column) (l : Line) (lines : List Line) → (entered_of c l).number ≡ 0
    → NoneRefused (entered_of c l).column lines ⊎ Stops (entered_of c l).column lines → NoneRefused c (l ∷ lines) ⊎ Stops c (l ∷ lines)
unfolding after
onward c l lines e (inl h) = inl (more e h)
onward c l lines e (inr s) =
    inr (record {
      before = l ∷ s.before;
      line = s.line;
      rest = s.rest;
      is = ap (λ (ls : List Line). l ∷ ls) s.is;
      accepted = more e s.accepted;
      refused = s.refused;
    })

-- no line of a list is refused, or a first one is
pub every_list : EveryList
unfolding after
every_list c [] = inl none
every_list c (l ∷ lines) =
    by_number (entered_of c l).number
    (λ e. onward c l lines e (every_list (entered_of c l).column lines))
    (λ k. inr (record { before = []; line = l; rest = lines; is = refl; accepted = none; refused = k }))
