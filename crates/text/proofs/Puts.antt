-- Texts put into a lent buffer: one after another, and where all find room.
-- Assumes nothing.
use Rattle.std.proofs.Common.{◌≡◌, refl, sym, ◌∙◌, ap, Bool, true, false, cond, List, [], ◌∷◌, ◌++◌, append_assoc, ℕ, suc, ◌+◌, ◌≤◌, add-zero, zero-add, arith, leb, length, set, take, drop, length-append, length-take-le, take_at, drop_at, le-leb}
use Rattle.std.proofs.Math.Seq.{length-sets}
use Rattle.std.proofs.lemmas.List.Edits.{sets, sets-eq}
use Rattle.io.specs.Counts.{IsPrefixLen}
use Rattle.text.specs.Text.{joined}
use Rattle.text.specs.declared.Output.{Output}
use Rattle.text.specs.Put.{put_all, put_text, fronted}
use Rattle.text.specs.inner.Texts.{put}

-- some texts, and then others after them
pub put_then : {S : Type 0} (with_text : S → List ℕ → S) (s : S) (vs ws : List (List ℕ)) → put_all with_text (put_all with_text s vs) ws ≡ put_all with_text s (vs ++ ws)
unfolding put_all
put_then with_text s [] ws = refl
put_then with_text s (v ∷ vs) ws = put_then with_text (with_text s v) vs ws

-- an output keeps its buffer, and the buffer its length
one_same : (o : Output) (v : List ℕ) → ((put_text o v).buffer.ghost_name ≡ o.buffer.ghost_name) × (length (put_text o v).buffer.now ≡ length o.buffer.now)
unfolding put_text
one_same o v = go (leb (o.at + length v) (length o.buffer.now))
  where
    go : (b : Bool) → let p = cond b (record { buffer = record o.buffer { now = sets o.buffer.now o.at v }; at = o.at + length v }) o in
        (p.buffer.ghost_name ≡ o.buffer.ghost_name) × (length p.buffer.now ≡ length o.buffer.now)
    go true = (refl, length-sets o.buffer.now o.at v)
    go false = (refl, refl)

pub put_same : (o : Output) (vs : List (List ℕ)) → (put o vs).buffer.ghost_name ≡ o.buffer.ghost_name
unfolding put_all
put_same o [] = refl
put_same o (v ∷ vs) = put_same (put_text o v) vs ∙ (one_same o v).0

pub put_length : (o : Output) (vs : List (List ℕ)) → length (put o vs).buffer.now ≡ length o.buffer.now
unfolding put_all
put_length o [] = refl
put_length o (v ∷ vs) = put_length (put_text o v) vs ∙ (one_same o v).1

-- the text of some texts and then others is that of both
pub joined_append : (vs ws : List (List ℕ)) → joined (vs ++ ws) ≡ joined vs ++ joined ws
unfolding joined
joined_append [] ws = refl
joined_append (v ∷ vs) ws = rw (joined_append vs ws) (sym (append_assoc v (joined vs) (joined ws)))

pub joined_length : (vs ws : List (List ℕ)) → length (joined (vs ++ ws)) ≡ length (joined vs) + length (joined ws)
joined_length vs ws = ap length (joined_append vs ws) ∙ length-append (joined vs) (joined ws)

sets_append : (vs ws l : List ℕ) (i : ℕ) → sets l i (vs ++ ws) ≡ sets (sets l i vs) (i + length vs) ws
sets_append [] ws l i = ap (λ (k : ℕ). sets l k ws) (sym (add-zero i))
sets_append (a ∷ vs) ws l i =
    let e : suc i + length vs ≡ i + suc (length vs) = omega arith in
    sets_append vs ws (set l i a) (suc i) ∙ ap (λ (k : ℕ). sets (sets (set l i a) (suc i) vs) k ws) e

-- where there is room for all, all are put
put_fit : (o : Output) (vs : List (List ℕ)) → o.at + length (joined vs) ≤ length o.buffer.now
    → put o vs ≡ record { buffer = record o.buffer { now = sets o.buffer.now o.at (joined vs) }; at = o.at + length (joined vs) }
unfolding put_all put_text joined
put_fit o [] room = rw (add-zero o.at)
put_fit o (v ∷ vs) room =
    let size = length-append v (joined vs) in
    let n : o.at + length v + length (joined vs) ≡ o.at + length (v ++ joined vs) = omega arith in
    rw (le-leb (o.at + length v) (length o.buffer.now) (omega arith))
    (put_fit (record { buffer = record o.buffer { now = sets o.buffer.now o.at v }; at = o.at + length v }) vs (omega (arith, length-sets o.buffer.now o.at v)) ∙ rw (n, sets_append v (joined vs) o.buffer.now o.at))

-- texts that find room from the front on: how far they reach, and the whole buffer then
pub record Front (l : List ℕ) (text after : List ℕ) (end : ℕ) : Type 0 where
  pub ends : end ≡ length text
  pub is : after ≡ fronted text l
  pub counts : IsPrefixLen end after

pub put_front : {after : Output} (o : Output) (vs : List (List ℕ)) → after ≡ put o vs → o.at ≡ 0 → length (joined vs) ≤ length o.buffer.now
    → Front o.buffer.now (joined vs) after.buffer.now after.at
unfolding fronted
put_front {after} o vs e z room =
    let l = o.buffer.now in
    let t = joined vs in
    let fit = e ∙ put_fit o vs (omega (arith, z)) in
    let n : after.at ≡ length t = omega (arith, ap (λ (p : Output). p.at) fit, z) in
    let most : after.at ≤ length after.buffer.now = omega (arith, ap (λ (p : Output). length p.buffer.now) e, put_length o vs) in
    record {
      ends = n;
      is = ap (λ (p : Output). p.buffer.now) fit ∙ (ap (λ (i : ℕ). sets l i t) z ∙ sets-eq t l 0 (omega arith) ∙ ap (λ (k : ℕ). t ++ drop k l) (zero-add (length t)));
      counts = (most, sym (length-take-le after.at after.buffer.now most));
    }

-- the text at the front of a buffer is what its first bytes are, and the others are as they were
pub fronted_take : (t l : List ℕ) → take (length t) (fronted t l) ≡ t
unfolding fronted
fronted_take t l = take_at t (drop (length t) l) (length t) refl

pub fronted_drop : (t l : List ℕ) → drop (length t) (fronted t l) ≡ drop (length t) l
unfolding fronted
fronted_drop t l = drop_at t (drop (length t) l) (length t) refl
