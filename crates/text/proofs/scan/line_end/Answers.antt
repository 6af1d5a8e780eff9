-- `text::scan::line_end` meets its contract: what is found in the rest of the text is found from the place on. Assumes nothing.
use Rattle.std.proofs.Common.{rules, zero-le, ◌≡◌, sym, ◌∙◌, ap, List, ℕ, ◌+◌, ◌-◌, add-zero, arith, length, take, drop, drop_of_length-le, length-drop, take_all}
use Rattle.std.specs.Prelude.{Option, Some, None, unwrap_or}
use Rattle.memchr.specs.Find.{IsFirstByte, is_byte}
use Rattle.text.specs.Lines.{newline, index_of, end_from}
use Rattle.text.proofs.LineEnd.{index_absent, index_first}
use Rattle.text.proofs.scan.line_end.Goals as goal

-- what the library finds is the first newline
found : (bs : List ℕ) (r : Option ℕ) → IsFirstByte (is_byte newline) bs r → unwrap_or r (length bs) ≡ index_of newline bs
found bs None h = sym (index_absent bs (λ k l e. h k zero-le l e))
found bs (Some i) h = sym (index_first bs i h.0.high h.1 (λ k l e. h.0.before k zero-le l e))

pub returns-then-from-text : goal.returns-then-from-text
unfolding end_from index_of
returns-then-from-text c = rw (drop_of_length-le c.args.text.now {i = c.args.from} (omega arith)) (sym (add-zero c.args.from))

pub returns : goal.returns
unfolding end_from
returns c =
    let text = c.args.text.now in
    let from = c.args.from in
    let part = take (length text - from) (drop from text) in
    let rest : part ≡ drop from text = take_all (length text - from) (drop from text) (omega (arith, length-drop from text)) in
    let told : c.unwrap_or.result ≡ unwrap_or c.memchr.result (length part) = search rules in
    ap (λ (n : ℕ). from + n) (told ∙ (found part c.memchr.result c.memchr.ensures ∙ ap (index_of newline) rest))
