-- `exports::sheets::bungero_write` meets its contract: what writing gives, in numbers alone. Assumes nothing.
use Rattle.exports.proofs.Answered.{written_counts, written_shown}
use Rattle.exports.proofs.sheets.bungero_write.Goals as goal

pub returns-clause-written : goal.returns-clause-written
returns-clause-written c = written_shown _ _ _ c.into.ensures c.write.ensures.answered

pub returns-clause-prefix_len : goal.returns-clause-prefix_len
returns-clause-prefix_len c = written_counts _ _ _ c.into.ensures c.write.ensures.prefix_len
