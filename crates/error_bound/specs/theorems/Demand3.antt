-- Paper 01, "Reduced load and figure": demand 3, one claim over the whole list of entries.
-- Assumes nothing.
use Rattle.std.specs.Prelude.{List, ℕ}
use Rattle.column.specs.declared.Line.{Line}
use Rattle.column.specs.declared.Member.{Member}
use Rattle.column.specs.Accepted.{accepted}
use Rattle.column.specs.Column.{opened_of, after}
use Rattle.figure.specs.Asked.{asked}
use Rattle.error_bound.specs.Claim.{Claim}

-- 01, Reduced load and figure: demand 3, for every member, every list of entries, refused ones among them, and every floor:
-- the answer is what asking at the floor gives after the whole list, and the accepted lines follow from the member and the
-- entries alone. It is proved in proofs/Claim.antt
abbrev pub Demand3 : Type 0
Demand3 = (m : Member) (entries : List Line) (f : ℕ) → Claim m (accepted m entries) f (asked (after (opened_of m).column entries) f)
