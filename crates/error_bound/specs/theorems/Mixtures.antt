-- Paper 02, "CR 1. A whole floor pasted in", and 01, "Reduced load and figure": demand 3 after single entries and pastes.
-- Assumes nothing.
use Rattle.std.specs.Prelude.{List, ℕ}
use Rattle.column.specs.declared.Member.{Member}
use Rattle.column.specs.Accepted.{accepted}
use Rattle.column.specs.Column.{opened_of}
use Rattle.column.specs.theorems.Mixtures.{Call, after_calls, entries_of_calls}
use Rattle.figure.specs.Asked.{asked}
use Rattle.error_bound.specs.Claim.{Claim}

-- 01, Reduced load and figure: demand 3, for every member, every list of calls, single entries and pastes in whatever mixture,
-- refused ones among them, and every floor: the list of entries is that of all the calls. That a paste makes no fewer entries
-- than 02 has it is said by `AllKept` and `KeptBefore` of `column`
abbrev pub Demand3OfCalls : Type 0
Demand3OfCalls = (m : Member) (calls : List Call) (f : ℕ)
    → Claim m (accepted m (entries_of_calls (opened_of m).column calls)) f (asked (after_calls (opened_of m).column calls) f)
