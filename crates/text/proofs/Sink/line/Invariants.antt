-- `text::Sink::line` meets its contract: what is left to put makes the whole line. Assumes nothing.
use Rattle.std.proofs.Common.{◌≡◌, map, drop}
use Rattle.text.specs.Put.{field_parts, put_all}
use Rattle.text.proofs.Sink.line.Given as goal

abbrev pub invariant-loop-key : goal.invariant-loop-key
invariant-loop-key g l =
    put_all g.Self.Sink.with_text l.self (field_parts (map (λ f. f.0.now) (drop l.key-index l.fields)) (map (λ f. f.1) (drop l.key-index l.fields)))
    ≡ put_all g.Self.Sink.with_text l.fn.self (field_parts (map (λ f. f.0.now) l.fields) (map (λ f. f.1) l.fields))
