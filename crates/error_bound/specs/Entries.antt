-- Paper 01, "Reduced load and figure": a whole list of entries at once, what asking gives after it and which were refused.
-- Assumes nothing.
use Rattle.std.specs.Prelude.{cond, List, [], ◌∷◌, ℕ, ◌+◌, eqb, option_map, unwrap_or}
use Rattle.refusal.specs.Refusal.{number_of}
use Rattle.refusal.specs.Said.{Said, refused, nothing}
use Rattle.column.specs.declared.Line.{Line}
use Rattle.column.specs.declared.Member.{Member}
use Rattle.figure.specs.declared.Working.{Working}
use Rattle.column.specs.Accepted.{entry_number, joined}
use Rattle.column.specs.Column.{opened_of, after}
use Rattle.figure.specs.Asked.{asked}
use Rattle.error_bound.specs.declared.Refusals.{Refusals}

-- 01, Reduced load and figure: open, enter every entry, going on past refused ones, and ask; the
-- number of the opening where that is refused
unfoldable pub asked_after : Member → List Line → ℕ → Said Working
asked_after m entries f =
    cond (eqb (opened_of m).number 0)
    (asked (after (opened_of m).column entries) f)
    (refused (opened_of m).number nothing)

-- 01, Reduced load and figure: "Take the entries in order"; the number that each one gets, 0 where it is accepted, where these
-- lines are accepted so far
unfoldable pub numbers_from : Member → List Line → List Line → List ℕ
numbers_from m ls [] = []
numbers_from m ls (e ∷ es) = entry_number m ls e ∷ numbers_from m (joined m ls e) es

-- No part of the paper: how many of these numbers are not 0
unfoldable pub refused_count : List ℕ → ℕ
refused_count [] = 0
refused_count (n ∷ ns) = cond (eqb n 0) 0 1 + refused_count ns

-- No part of the paper: the first number that is not 0; 0 where there is none
unfoldable pub first_number : List ℕ → ℕ
first_number [] = 0
first_number (n ∷ ns) = cond (eqb n 0) (first_number ns) n

-- No part of the paper: the place of that number, where the list's first has this place; 0 where there is none
unfoldable pub first_place : ℕ → List ℕ → ℕ
first_place place [] = 0
first_place place (n ∷ ns) = cond (eqb n 0) (first_place (place + 1) ns) place

-- No part of the paper: what is told of the refused entries: how many, and the number and the place of the first; zeros where
-- there is none. "Places count from 1" (01, Member, line, floor)
pub record RefusedEntries : Type 0 where
  pub count : ℕ
  pub number : ℕ
  pub place : ℕ

-- No part of the paper: all three of the numbers of a list
unfoldable pub refusals_of : List ℕ → RefusedEntries
refusals_of numbers = record { count = refused_count numbers; number = first_number numbers; place = first_place 1 numbers }

-- No part of the paper: what is told of the refused entries of a whole list; of none where opening is refused, since
-- then no entry is looked at
unfoldable pub refusals_after : Member → List Line → RefusedEntries
refusals_after m entries = refusals_of (cond (eqb (opened_of m).number 0) (numbers_from m [] entries) [])

-- 01, Where each language form belongs: the same, read off the count and the first one
unfoldable pub refusals_told : Refusals → RefusedEntries
refusals_told r = record { count = r.count; number = unwrap_or (option_map (λ q. number_of q.refusal) r.first) 0; place = unwrap_or (option_map (λ q. q.back) r.first) 0 }
