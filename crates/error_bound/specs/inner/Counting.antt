-- The entries of a list one after another, on a column, and what is told of the refused ones so far.
-- Assumes nothing.
use Rattle.std.specs.Prelude.{cond, List, [], ◌∷◌, ℕ, ◌+◌, eqb}
use Rattle.column.specs.declared.Line.{Line}
use Rattle.column.specs.declared.Column.{Column}
use Rattle.column.specs.Column.{entered_of}
use Rattle.error_bound.specs.Entries.{RefusedEntries}

-- the number of each entry, entered on what the one before it left
unfoldable pub numbers_on : Column → List Line → List ℕ
numbers_on c [] = []
numbers_on c (e ∷ es) = (entered_of c e).number ∷ numbers_on (entered_of c e).column es

-- before any entry
abbrev pub no_refusals : RefusedEntries
no_refusals = record { count = 0; number = 0; place = 0 }

-- the entry at a place has this number: a refused one is counted, and the first one is kept
unfoldable pub noted_of : RefusedEntries → ℕ → ℕ → RefusedEntries
noted_of p n place =
    cond {A = RefusedEntries} (eqb n 0) p
    (cond {A = RefusedEntries} (eqb p.number 0)
    (record { count = p.count + 1; number = n; place = place })
    (record { count = p.count + 1; number = p.number; place = p.place }))

-- the entries from a place on have these numbers
unfoldable pub noted_all : RefusedEntries → ℕ → List ℕ → RefusedEntries
noted_all p place [] = p
noted_all p place (n ∷ ns) = noted_all (noted_of p n place) (place + 1) ns
