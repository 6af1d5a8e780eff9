-- `exports::sheets::bungero_read` meets its contract: a sheet that is read keeps the limits. Assumes nothing.
use Rattle.std.proofs.Common.{ap, ◌∙◌}
use Rattle.exports.specs.Exported.{shown_reading}
use Rattle.exports.proofs.Answered.{reading_keeps}
use Rattle.exports.proofs.sheets.bungero_read.Goals as goal

pub returns-clause-keeps : goal.returns-clause-keeps
returns-clause-keeps c = reading_keeps _ _ (c.into.ensures ∙ ap shown_reading c.read.ensures.read)
