-- `exports::changes::bungero_paste` meets its contract: the column then holds at most 256 lines. Assumes nothing.
use Rattle.std.proofs.Common.{arith}
use Rattle.column.proofs.InPlace.{reached_few}
use Rattle.exports.proofs.changes.bungero_paste.Goals as goal

pub overflow_add-filled : goal.overflow_add-filled
overflow_add-filled c = let few = reached_few c.paste-pasted.ensures.reached in omega (arith, few)
