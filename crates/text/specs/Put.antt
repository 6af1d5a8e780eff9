-- Texts put into a lent buffer.
-- Assumes nothing.
use Rattle.std.specs.Prelude.{cond, List, [], ◌∷◌, ◌++◌, ℕ, ◌+◌, leb, length, drop}
use Rattle.std.proofs.lemmas.List.Edits.{sets}
use Rattle.text.specs.declared.Output.{Output}
use Rattle.text.specs.Text.{decimal}
use Rattle.text.specs.Lines.{newline}

-- No part of the paper: what something is after texts are put into it, by what it is after one
unfoldable pub put_all : {S : Type 0} → (S → List ℕ → S) → S → List (List ℕ) → S
put_all with_text s [] = s
put_all with_text s (t ∷ ts) = put_all with_text (with_text s t) ts

-- No part of the paper: an output after a text is put: it holds the same buffer, with the text in it from the index on, and the
-- index after it; without room nothing is put
unfoldable pub put_text : Output → List ℕ → Output
put_text o t =
    let end = o.at + length t in
    cond (leb end (length o.buffer.now)) (record { buffer = record o.buffer { now = sets o.buffer.now o.at t }; at = end }) o

-- 01, The sheet: numbers, each behind its key, and "one newline byte (10)"
unfoldable pub field_parts : List (List ℕ) → List ℕ → List (List ℕ)
field_parts (key ∷ keys) (n ∷ ns) = key ∷ decimal n ∷ field_parts keys ns
field_parts (key ∷ keys) [] = (newline ∷ []) ∷ []
field_parts [] ns = (newline ∷ []) ∷ []

-- No part of the paper: a buffer with a text at its front, and the rest as it was; all of it as it was where the text is empty
unfoldable pub fronted : List ℕ → List ℕ → List ℕ
fronted text buffer = text ++ drop (length text) buffer
