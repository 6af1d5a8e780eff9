-- `column::Column::paste` meets its contract: the column then holds at most 256 lines. Assumes nothing.
use Rattle.std.proofs.Common.{arith}
use Rattle.column.proofs.InPlace.{reached_held}
use Rattle.column.proofs.Column.paste.Goals as goal

pub overflow_add-filled : goal.overflow_add-filled
overflow_add-filled c = let few = (reached_held c.paste-pasted.ensures.reached).few in omega (arith, few)
