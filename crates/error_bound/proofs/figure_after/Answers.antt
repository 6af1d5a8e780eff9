-- `error_bound::figure_after` meets its contract, demand 3 with it: its calls are those of the definition. Assumes nothing.
use Rattle.std.proofs.Common.{◌∙◌, ap}
use Rattle.refusal.specs.Said.{said}
use Rattle.column.specs.declared.Column.{Column}
use Rattle.column.specs.Column.{member_of, opened_as}
use Rattle.column.specs.Line.{entries_of}
use Rattle.figure.specs.Asked.{asked}
use Rattle.error_bound.specs.Entries.{refusals_told}
use Rattle.error_bound.proofs.Counting.{refusals_refused}
use Rattle.error_bound.proofs.Claim.{asked_opened, asked_refused, claim_opened}
use Rattle.error_bound.proofs.figure_after.Goals as goal

pub returns-in-Ok-clause-asked : goal.returns-in-Ok-clause-asked
unfolding opened_as
returns-in-Ok-clause-asked c =
    c.ask_in.ensures
    ∙ (ap (λ (d : Column). asked d c.args.floor) c.lend.ensures
    ∙ asked_opened (member_of c.args.code) (entries_of c.args.entries.now) c.args.floor c.in-Ok.ensures.opened c.enter_all-refusals.ensures.column.0)

pub returns-in-Ok-clause-claim : goal.returns-in-Ok-clause-claim
returns-in-Ok-clause-claim c = claim_opened _ _ _ (returns-in-Ok-clause-asked c)

pub returns-in-Err-clause-asked : goal.returns-in-Err-clause-asked
unfolding opened_as said
returns-in-Err-clause-asked c = asked_refused (member_of c.args.code) (entries_of c.args.entries.now) c.args.floor c.in-Err.refusal c.in-Err.ensures.opened

pub returns-in-Err-clause-claim : goal.returns-in-Err-clause-claim
returns-in-Err-clause-claim c = claim_opened _ _ _ (returns-in-Err-clause-asked c)

pub returns-in-Err-clause-refusals : goal.returns-in-Err-clause-refusals
unfolding opened_as refusals_told
returns-in-Err-clause-refusals c = refusals_refused (member_of c.args.code) (entries_of c.args.entries.now) c.in-Err.refusal c.in-Err.ensures.opened
