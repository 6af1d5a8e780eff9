-- Single entries and pastes, in whatever mixture, are a list of entries.
-- Assumes nothing.
use Rattle.std.proofs.Common.{◌≡◌, refl, sym, ◌∙◌, ap, [], ◌∷◌}
use Rattle.column.specs.declared.Column.{Column}
use Rattle.column.specs.Column.{opened_of, after}
use Rattle.column.specs.theorems.Pasting.{EndsAsEntering}
use Rattle.column.specs.theorems.Mixtures.{Call, entering, pasting, called, after_calls, entries_of_call, entries_of_calls, CallsAreEntries, ReachedByCalls}
use Rattle.column.proofs.Reach.{after_append}
use Rattle.column.proofs.Pasting.{ends_as_entering}

-- a call is its entries
call_is_entries : (c : Column) (k : Call) → called c k ≡ after c (entries_of_call c k)
unfolding called entries_of_call after EndsAsEntering
call_is_entries c (entering l) = refl
call_is_entries c (pasting lines) = ends_as_entering c lines

-- 01, Reduced load and figure: calls are the entries of each, one after another
pub calls_are_entries : CallsAreEntries
unfolding CallsAreEntries after_calls entries_of_calls after
calls_are_entries c [] = refl
calls_are_entries c (k ∷ ks) =
    calls_are_entries (called c k) ks
    ∙ (ap (λ (d : Column). after d (entries_of_calls (called c k) ks)) (call_is_entries c k)
    ∙ sym (after_append c (entries_of_call c k) (entries_of_calls (called c k) ks)))

-- 01, Member, line, floor: and so give a reached column
pub reached_by_calls : ReachedByCalls
unfolding ReachedByCalls CallsAreEntries
reached_by_calls m calls e =
    record { member = m; entries = entries_of_calls (opened_of m).column calls; opened = e; is = calls_are_entries (opened_of m).column calls }
