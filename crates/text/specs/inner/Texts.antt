-- Texts put into a lent buffer, in one word.
-- Assumes nothing.
use Rattle.std.specs.Prelude.{List, ℕ}
use Rattle.text.specs.declared.Output.{Output}
use Rattle.text.specs.Put.{put_all, put_text}

-- an output after texts are put
abbrev pub put : Output → List (List ℕ) → Output
put = put_all put_text
