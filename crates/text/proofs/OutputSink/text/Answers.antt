-- `text::OutputSink::text` meets its contract: what is copied into the rest of the buffer stands in the buffer from the index on. Assumes nothing.
use Rattle.std.proofs.Common.{◌≡◌, sym, ◌∙◌, ap, List, ◌++◌, append_assoc, ℕ, ◌+◌, ◌-◌, ◌≤◌, arith, length, take, drop, drop-drop, le-leb}
use Rattle.std.proofs.lemmas.Bool.{lt-leb}
use Rattle.std.proofs.lemmas.List.Edits.{sets, sets-eq}
use Rattle.text.specs.Put.{put_text, put_all}
use Rattle.text.proofs.OutputSink.text.Goals as goal

-- the rest of a buffer from an index on, with a text copied to its start, put back
copied : (l text : List ℕ) (at : ℕ) → at + length text ≤ length l
    → take at l ++ (text ++ drop (at + length text - at) (drop at l)) ≡ sets l at text
copied l text at room =
    let size : at + length text - at ≡ length text = omega arith in
    rw (size, drop-drop (length text) at l) (sym (append_assoc (take at l) text (drop (at + length text) l)) ∙ sym (sets-eq text l at room))

pub returns-then-self : goal.returns-then-self
unfolding put_text put_all
returns-then-self c =
    let no = lt-leb (c.args.self.now.at + length c.args.text.now) (length c.args.self.now.buffer.now) (omega arith) in
    rw no

pub returns-then-text-self : goal.returns-then-text-self
unfolding put_text put_all
returns-then-text-self c =
    let no = lt-leb (c.args.self.now.at + length c.args.text.now) (length c.args.self.now.buffer.now) (omega arith) in
    rw no

pub returns : goal.returns
unfolding put_text put_all
returns c =
    let room : c.args.self.now.at + length c.args.text.now ≤ length c.args.self.now.buffer.now = omega arith in
    rw (le-leb _ _ room, c.copy_from_slice.ensures.after)
    (ap (λ (b : List ℕ). record { buffer = record c.args.self.now.buffer { now = b }; at = c.args.self.now.at + length c.args.text.now }) (copied c.args.self.now.buffer.now c.args.text.now c.args.self.now.at room))
