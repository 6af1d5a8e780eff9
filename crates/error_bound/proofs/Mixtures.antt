-- Demand 3 after every mixture of single entries and pastes.
-- Assumes nothing.
use Rattle.std.proofs.Math.Path.{subst⁻¹}
use Rattle.column.specs.declared.Column.{Column}
use Rattle.column.specs.Accepted.{accepted}
use Rattle.column.specs.Column.{opened_of}
use Rattle.column.specs.theorems.Mixtures.{entries_of_calls, CallsAreEntries}
use Rattle.column.proofs.Mixtures.{calls_are_entries}
use Rattle.figure.specs.Asked.{asked}
use Rattle.error_bound.specs.Claim.{Claim}
use Rattle.error_bound.specs.theorems.Mixtures.{Demand3OfCalls}
use Rattle.error_bound.proofs.Claim.{demand3}

-- 01, Reduced load and figure: demand 3, the calls being a list of entries
pub demand3_of_calls : Demand3OfCalls
unfolding CallsAreEntries
demand3_of_calls m calls f =
    let entries = entries_of_calls (opened_of m).column calls in
    subst⁻¹ (λ (c : Column). Claim m (accepted m entries) f (asked c f)) (calls_are_entries (opened_of m).column calls) (demand3 m entries f)
