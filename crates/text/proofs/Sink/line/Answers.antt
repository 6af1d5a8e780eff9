-- `text::Sink::line` meets its contract: what is left to put makes the whole line. Assumes nothing.
use Rattle.std.proofs.Common.{refl, [], drop_of_length-le}
use Rattle.std.proofs.lemmas.List.{drop_more}
use Rattle.text.specs.Put.{field_parts}
use Rattle.text.proofs.Puts.{put_then}
use Rattle.text.proofs.Sink.line.Goals as goal

pub loop-key-init : goal.loop-key-init
loop-key-init g c = refl

pub loop-key-preserved : goal.loop-key-preserved
unfolding field_parts
loop-key-preserved g c =
    rw (c.field.ensures, put_then) (rw (drop_more c.args.fields.now c.loop-key.key-index (record { ref_ptr = (0, 0); now = [] }, 0) c.loop-key-test.true) at c.loop-key.invariant)

pub returns : goal.returns
unfolding field_parts
returns g c = rw c.newline.ensures (rw (drop_of_length-le c.args.fields.now {i = c.loop-key.key-index} c.loop-key-test.false) at c.loop-key.invariant)
