-- The lines of a text: no line has a newline in it, a line in front or behind, and the bytes of all.
-- Assumes nothing.
use Rattle.std.proofs.Common.{◌≡◌, refl, sym, ◌∙◌, ap, Bool, true, false, cond, List, [], ◌∷◌, ◌++◌, append-nil, append_assoc, ℕ, ◌+◌, arith, eqb, eqb-true}
use Rattle.text.specs.Lines.{newline, Lines, line, rest, with_byte, split, ended, text_of}
use Rattle.text.specs.theorems.Texts.{newlines}

-- no line has a newline in it
pub data Clean : Lines → Type 0 where
  clean_line : {l : List ℕ} {ls : Lines} → newlines l ≡ 0 → Clean ls → Clean (line l ls)
  clean_rest : {l : List ℕ} → newlines l ≡ 0 → Clean (rest l)

clean_more : (b : ℕ) (l : List ℕ) → eqb b newline ≡ false → newlines l ≡ 0 → newlines (b ∷ l) ≡ 0
unfolding newlines
clean_more b l e h = rw (e, h)

clean_before : (b : ℕ) {ls : Lines} → eqb b newline ≡ false → Clean ls → Clean (with_byte b ls)
unfolding with_byte
clean_before b e (clean_line {l} h c) = clean_line (clean_more b l e h) c
clean_before b e (clean_rest {l} h) = clean_rest (clean_more b l e h)

-- the lines of a text have no newline in them
pub clean_split : (text : List ℕ) → Clean (split text)
unfolding split newlines
clean_split [] = clean_rest refl
clean_split (b ∷ bs) = go (eqb b newline) refl (clean_split bs)
  where
    go : (t : Bool) → eqb b newline ≡ t → Clean (split bs) → Clean (cond t (line [] (split bs)) (with_byte b (split bs)))
    go true e h = clean_line refl h
    go false e h = clean_before b e h

-- a text that begins with a line without a newline in it, ended by one
pub split_line : (l text : List ℕ) → newlines l ≡ 0 → split (ended l ++ text) ≡ line l (split text)
unfolding split with_byte newlines
split_line [] text h = refl
split_line (b ∷ bs) text h = go (eqb b newline) refl h (split_line bs text)
  where
    go : (t : Bool) → eqb b newline ≡ t → cond t 1 0 + newlines bs ≡ 0 → (newlines bs ≡ 0 → split (ended bs ++ text) ≡ line bs (split text))
        → cond t (line [] (split (ended bs ++ text))) (with_byte b (split (ended bs ++ text))) ≡ line (b ∷ bs) (split text)
    go true e h f = absurd (omega arith)
    go false e h f = rw (f (omega arith))

-- the bytes of lines
unfoldable pub bytes : Lines → List ℕ
bytes (line l ls) = ended l ++ bytes ls
bytes (rest l) = l

bytes_before : (b : ℕ) (ls : Lines) → bytes (with_byte b ls) ≡ b ∷ bytes ls
unfolding bytes with_byte
bytes_before b (line l ls) = refl
bytes_before b (rest l) = refl

-- the lines of a text have its bytes
pub bytes_split : (text : List ℕ) → bytes (split text) ≡ text
unfolding bytes split
bytes_split [] = refl
bytes_split (b ∷ bs) = go (eqb b newline) refl (bytes_split bs)
  where
    go : (t : Bool) → eqb b newline ≡ t → bytes (split bs) ≡ bs → bytes (cond t (line [] (split bs)) (with_byte b (split bs))) ≡ b ∷ bs
    go true e h = rw (h, eqb-true b newline e)
    go false e h = bytes_before b (split bs) ∙ ap (λ (l : List ℕ). b ∷ l) h

-- the text of some lines and then others, and of one line more
pub text_append : (ls ks : List (List ℕ)) → text_of (ls ++ ks) ≡ text_of ls ++ text_of ks
unfolding text_of
text_append [] ks = refl
text_append (l ∷ ls) ks = rw (text_append ls ks) (sym (append_assoc (ended l) (text_of ls) (text_of ks)))

pub text_more : (ls : List (List ℕ)) (l : List ℕ) → text_of (ls ++ (l ∷ [])) ≡ text_of ls ++ ended l
unfolding text_of
text_more ls l = text_append ls (l ∷ []) ∙ ap (λ (t : List ℕ). text_of ls ++ t) (append-nil (ended l))
