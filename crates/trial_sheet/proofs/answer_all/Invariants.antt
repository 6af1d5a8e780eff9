-- `trial_sheet::answer_all`: a sheet a turn. Assumes nothing.
use Rattle.std.proofs.Common.{length}
use Rattle.trial_sheet.proofs.answer_all.Given as goal

abbrev pub decreases-loop-rest : goal.decreases-loop-rest
decreases-loop-rest g l = length l.rest
