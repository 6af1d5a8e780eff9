-- What the structs of numbers say that are handed to C and Rust, in the terms of the definitions of the crates below.
-- Assumes nothing.
use Rattle.std.specs.Prelude.{false, List, [], ◌∷◌, replicate, ℕ, ℤ, pos, Option, unwrap_or, Result, Ok, Err, Float}
use Rattle.std.specs.Float.{fin}
use Rattle.refusal.specs.declared.Refused.{Refused}
use Rattle.refusal.specs.Refusal.{number_of}
use Rattle.refusal.specs.Said.{Said, gives, refused, Told}
use Rattle.figure.specs.declared.Working.{Working}
use Rattle.effects.specs.declared.LoadEffect.{LoadEffect}
use Rattle.combination.specs.declared.GoverningRow.{GoverningRow}
use Rattle.combination.specs.declared.Governing.{Governing}
use Rattle.effects.specs.declared.Load.{Load}
use Rattle.effects.specs.declared.PerLoad.{PerLoad}
use Rattle.effects.specs.Check.{place_of}
use Rattle.exports.specs.declared.checks.BungeroEffects.{BungeroEffects}
use Rattle.exports.specs.declared.checks.BungeroChecked.{BungeroChecked}
use Rattle.exports.specs.declared.combinations.BungeroCombined.{BungeroCombined}
use Rattle.exports.specs.declared.columns.BungeroFigure.{BungeroFigure}
use Rattle.exports.specs.declared.listed.BungeroListed.{BungeroListed}
use Rattle.sheet.specs.Sheet.{Reading}
use Rattle.sheet_writer.specs.Saving.{Placed, no_effect, Written}
use Rattle.report.specs.Report.{Reported}
use Rattle.exports.specs.declared.reductions.BungeroReduced.{BungeroReduced}
use Rattle.exports.specs.declared.reports.BungeroReported.{BungeroReported}
use Rattle.exports.specs.declared.sheets.BungeroReading.{BungeroReading}
use Rattle.exports.specs.declared.sheets.BungeroWritten.{BungeroWritten}

-- No part of the paper: the number of the layout of the structs, one more whenever it changes
abbrev pub layout_number : ℕ
layout_number = 1

-- 01, Numbers by the place of checking: n, X and the figure, or the number of the refusal; what is not given, which 01 leaves
-- free, is 0
unfoldable pub shown_of : Said Working → BungeroFigure
shown_of (gives w) = record { number = 0; floors = w.floors; influence = w.influence.0; figure = w.figure }
shown_of (refused n _) = record { number = n; floors = 0; influence = 0; figure = 0 }

-- 01, Member, line, floor: n, X and the figure, or the number and place of the refusal; what is not given, which 01 leaves
-- free, is 0
unfoldable pub shown_listed : Told ℕ Working → BungeroListed
shown_listed (gives w) = record { number = 0; place = 0; floors = w.floors; influence = w.influence.0; figure = w.figure }
shown_listed (refused n place) = record { number = n; place = place; floors = 0; influence = 0; figure = 0 }

-- 01, Reduced load and figure: R, or the number of the refusal; what is not given, which 01 leaves free, is 0
unfoldable pub shown_reduced : Said ℕ → BungeroReduced
shown_reduced (gives r) = record { number = 0; reduced = r }
shown_reduced (refused n _) = record { number = n; reduced = 0 }

-- No part of the paper: the double where there is none to hand out
abbrev pub plus_zero : Float
plus_zero = fin false 0 (pos 0)

-- No part of the paper: the row where there is none to hand out
abbrev pub no_row : GoverningRow
no_row = record { row = 0; tenths = pos 0; double = plus_zero }

-- 01, Effects and the 25 combinations: the governing rows with the number 0, or the number, which effect it is, and its double
unfoldable pub shown_combined : Told (LoadEffect Load) Governing → BungeroCombined
shown_combined (gives g) = record { number = 0; place = 0; double = plus_zero; governing = g }
shown_combined (refused n e) = record { number = n; place = place_of e.load; double = e.double; governing = record { greatest = no_row; least = no_row } }

-- 01, Effects and the 25 combinations: the seven effects, read off the struct that C and Rust hand over
unfoldable pub handed_in : BungeroEffects → PerLoad Float
handed_in e = record { dead = e.dead; live = e.live; roof = e.roof; snow = e.snow; rain = e.rain; wind = e.wind; quake = e.quake }

-- 01, Numbers by the place of checking: what the check hands out, its effects "D to E as listed"
pub record HandedOut : Type 0 where
  pub number : ℕ
  pub place : ℕ
  pub double : Float
  pub newtons : List ℤ

-- 01, Where each language form belongs: the same, read off the struct that is handed to C and Rust
unfoldable pub handed_out : BungeroChecked → HandedOut
handed_out r =
    let n = r.newtons in
    record { number = r.number; place = r.place; double = r.double; newtons = n.dead ∷ n.live ∷ n.roof ∷ n.snow ∷ n.rain ∷ n.wind ∷ n.quake ∷ [] }

-- 01, Effects and the 25 combinations: the whole newtons with the number 0, or the number, which effect it is, and its double
unfoldable pub shown_checked : Told (LoadEffect Load) (List ℤ) → HandedOut
shown_checked (gives zs) = record { number = 0; place = 0; double = plus_zero; newtons = zs }
shown_checked (refused n e) = record { number = n; place = place_of e.load; double = e.double; newtons = replicate 7 (pos 0) }

-- 01, The sheet: the number, K, the part and the sheet so far, as reading gives them
unfoldable pub shown_reading : Reading → BungeroReading
shown_reading r = record { number = r.number; line = r.line; start = r.start; end = r.end; sheet = r.sheet }

-- 01, The sheet: the number, K and how many bytes are put, as the report gives them
unfoldable pub shown_report : Reported → BungeroReported
shown_report r = record { number = r.number; line = r.line; length = r.length }

-- 02, CR 2: the numbers that an answer of writing says: how many bytes are put, or the number of the refusal with the place and
-- the double of the effect that is refused
unfoldable pub written_told : Result ℕ (Refused (Option Placed)) → Written
written_told (Ok n) = record { number = 0; place = 0; double = no_effect.double; length = n }
written_told (Err r) = let e = unwrap_or r.back no_effect in record { number = number_of r.refusal; place = e.load; double = e.double; length = 0 }

-- 02, CR 2: the number, which effect is refused, its double and how many bytes are put, as writing gives them
unfoldable pub shown_written : Written → BungeroWritten
shown_written w = record { number = w.number; place = w.place; double = w.double; length = w.length }
