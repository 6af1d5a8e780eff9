-- Paper 02, "CR 1. A whole floor pasted in": a list of lines entered by one call, up to and with the first refused one.
-- Assumes nothing.
use Rattle.std.specs.Prelude.{cond, List, [], ◌∷◌, ℕ, ◌+◌, eqb, Option, Some, None}
use Rattle.refusal.specs.declared.Refusal.{Refusal}
use Rattle.refusal.specs.Refusal.{number_of}
use Rattle.column.specs.declared.in_place.PastedLines.{PastedLines}
use Rattle.column.specs.declared.Line.{Line}
use Rattle.column.specs.declared.Column.{Column}
use Rattle.column.specs.Column.{entered_of}

-- 02, CR 1: "It says how many were kept, and the number of the refusal if there was one", 0 where there was none; beside them
-- the column then
pub record Pasting : Type 0 where
  pub number : ℕ
  pub kept : ℕ
  pub column : Column

-- 02, CR 1: "It ends as entering them one after another would, up to and with the first refused line; the lines before that
-- one are kept"; the lines that are left, where so many are kept already
unfoldable pub pasted_from : ℕ → Column → List Line → Pasting
pasted_from kept c [] = record { number = 0; kept = kept; column = c }
pasted_from kept c (l ∷ ls) =
    cond {A = Pasting} (eqb (entered_of c l).number 0)
    (pasted_from (kept + 1) (entered_of c l).column ls)
    (record { number = (entered_of c l).number; kept = kept; column = (entered_of c l).column })

-- 02, CR 1: the whole list, none of it being kept yet
abbrev pub pasted_of : Column → List Line → Pasting
pasted_of c lines = pasted_from 0 c lines

-- 01, Numbers by the place of checking: the number of a refusal; 0 where there is none
unfoldable pub number_or_0 : Option Refusal → ℕ
number_or_0 (Some r) = number_of r
number_or_0 None = 0

-- No part of the paper: what the answer of a paste says, with the column then
unfoldable pub paste_outcome : PastedLines → Column → Pasting
paste_outcome p c = record { number = number_or_0 p.refusal; kept = p.kept; column = c }
