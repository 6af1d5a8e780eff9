-- `exports::reports::bungero_report` meets its contract: its length is that of the bytes that are put. Assumes nothing.
use Rattle.exports.proofs.Answered.{reported_counts}
use Rattle.exports.proofs.reports.bungero_report.Goals as goal

pub returns-clause-prefix_len : goal.returns-clause-prefix_len
returns-clause-prefix_len c = reported_counts _ _ _ c.into.ensures c.report.ensures.prefix_len
