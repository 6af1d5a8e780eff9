-- `input::read_from` meets its contract: the count is the buffer's length where the loop ends by itself, and below it else. Assumes nothing.
use Rattle.std.proofs.Common.{arith, sym, eq-eqb, ne_eqb}
use Rattle.input.specs.Ending.{is_full}
use Rattle.input.proofs.read_from.Goals as goal

pub returns-in-Ok-eq0-clause-ending : goal.returns-in-Ok-eq0-clause-ending
unfolding is_full
returns-in-Ok-eq0-clause-ending g c = sym (ne_eqb _ _ (λ q. omega (arith, q)))

pub returns-in-Err-clause-ending : goal.returns-in-Err-clause-ending
unfolding is_full
returns-in-Err-clause-ending g c = sym (ne_eqb _ _ (λ q. omega (arith, q)))

pub returns-clause-ending : goal.returns-clause-ending
unfolding is_full
returns-clause-ending g c = sym (eq-eqb _ _ (omega arith))
