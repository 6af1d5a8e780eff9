-- Paper 01, "The sheet" and "Numbers by the place of checking": reading a sheet, line by line.
-- Assumes nothing.
use Rattle.std.specs.Prelude.{Bool, false, cond, List, [], ◌∷◌, ℕ, ◌+◌, ◌-◌, leb, ltb, eqb, ℤ, pos, length, take, drop, set, replicate}
use Rattle.column.specs.declared.Column.{Column}
use Rattle.column.specs.Pasted.{number_or_0}
use Rattle.column.specs.Column.{Outcome, member_of, unopened, opened_of, entered_of}
use Rattle.newtons.specs.Effect.{within}
use Rattle.sheet_lines.specs.declared.Due.{Due}
use Rattle.sheet_lines.specs.declared.Due.TheVariants as D
use Rattle.refusal.specs.Said.{Said, gives, refused}
use Rattle.sheet_lines.specs.declared.Form.{Form}
use Rattle.sheet_lines.specs.declared.Form.TheVariants as F
use Rattle.sheet_lines.specs.Form.{effect_count, line_said}
use Rattle.sheet.specs.declared.Sheet.{Sheet}
use Rattle.sheet.specs.declared.ReadSheet.{ReadSheet}
use Rattle.sheet.specs.declared.steps.Draft.{Draft}
use Rattle.text.specs.Lines.{Lines, line, rest, split}

-- 01, Numbers by the place of checking: what becomes of a line: its number, 0 where it is taken, and the draft then
pub record Taken : Type 0 where
  pub number : ℕ
  pub draft : Draft

-- No part of the paper: before the first line: no member is opened, and all effects are 0
abbrev pub unread : Draft
unread = record { due = D.Member; sheet = record { column = unopened; effects = replicate effect_count (pos 0) } }

-- 01, The sheet: the sheet has all its lines
unfoldable pub is_complete : Due → Bool
is_complete D.Member = false
is_complete (D.Effect k) = leb effect_count k

-- 01, The sheet: "in a fixed order"; the draft after a line that gave a column
abbrev pub with_column : Draft → Column → Draft
with_column d c = record { due = D.Effect 0; sheet = record { column = c; effects = d.sheet.effects } }

-- 01, The sheet: "in a fixed order"; the draft after the effect at a place
abbrev pub with_effect : Draft → ℕ → ℤ → Draft
with_effect d k z =
    record { due = D.Effect (k + 1); sheet = record { column = d.sheet.column; effects = set d.sheet.effects k z } }

-- 01, Numbers by the place of checking: a line with a number is refused, and the draft "is then as before"; with 0 it is taken
unfoldable pub if_taken : ℕ → Draft → Draft → Taken
if_taken n d next = record { number = n; draft = cond (eqb n 0) next d }

-- 01, Numbers by the place of checking: 9, beyond ±1,000,000,000,000
unfoldable pub effect_number : ℤ → ℕ
effect_number z = cond (within z) 0 9

-- 01, Numbers by the place of checking: the draft after opening the member or entering the line
abbrev pub with_outcome : Draft → Outcome → Taken
with_outcome d o = if_taken o.number d (with_column d o.column)

-- 01, Numbers by the place of checking: what becomes of what a line says, by its values 1, 2 to 6 or 9; without the form 10
unfoldable pub valued : Draft → Said Form → Taken
valued d (gives (F.Member code)) = with_outcome d (opened_of (member_of code))
valued d (gives (F.Floor l)) = with_outcome d (entered_of d.sheet.column l)
valued d (gives (F.Effect k z)) = if_taken (effect_number z) d (with_effect d k z)
valued d (refused n _) = if_taken n d d

-- 01, Numbers by the place of checking: "each line: form, then its values"
unfoldable pub line_taken : Draft → List ℕ → Taken
line_taken d l = valued d (line_said d.due l)

-- 01, The sheet and Numbers by the place of checking: what reading gives: the number, 0 where the sheet is read; the line K;
-- where the offending part starts and ends; and the sheet, as far as it was read
pub record Reading : Type 0 where
  pub number : ℕ
  pub line : ℕ
  pub start : ℕ
  pub end : ℕ
  pub sheet : Sheet

-- No part of the paper: what the answer of reading says
unfoldable pub reading_told : ReadSheet → Reading
reading_told r =
    record { number = number_or_0 r.refusal; line = r.stop.line; start = r.stop.part.start; end = r.stop.part.end; sheet = r.sheet }

-- 01, The sheet: what reading gives where it stops: the number, K, the part from start to end, and the sheet so far
abbrev pub reading : ℕ → ℕ → ℕ → ℕ → Draft → Reading
reading number k start end d = record { number = number; line = k; start = start; end = end; sheet = d.sheet }

-- 01, The sheet: a refused line is "without its newline"; r is what reading on gives where it is taken
unfoldable pub if_read : Taken → ℕ → ℕ → ℕ → Draft → Reading → Reading
if_read t k start end d r = cond (eqb t.number 0) r (reading t.number k start end d)

-- 01, The sheet: k lines are read, which end before a place of the text; these lines follow.
-- "A missing line counts as the next one"; "where the last line lacks its newline, the part runs to the end of the text".
-- Where the sheet is read, which the paper leaves free, K is its last line
unfoldable pub read_from : ℕ → ℕ → Draft → Lines → Reading
read_from k at d (rest []) = cond (is_complete d.due) (reading 0 k at at d) (reading 10 (k + 1) at at d)
read_from k at d (rest (b ∷ bs)) = reading 10 (k + 1) at (at + length (b ∷ bs)) d
read_from k at d (line l ls) =
    let t = line_taken d l in
    if_read t (k + 1) at (at + length l) d (read_from (k + 1) (at + length l + 1) t.draft ls)

-- 01, Numbers by the place of checking: the most bytes that a sheet may have
abbrev pub longest : ℕ
longest = 32768

-- 01, Numbers by the place of checking: "length first", 11, with K = 0 and the empty part at the start; then each line
unfoldable pub read_sheet : List ℕ → Reading
read_sheet text = cond (ltb longest (length text)) (reading 11 0 0 0 unread) (read_from 0 0 unread (split text))

-- 01, The sheet: "hands back the offending line": the bytes from start to end
unfoldable pub offending_of : List ℕ → List ℕ
offending_of text = let r = read_sheet text in take (r.end - r.start) (drop r.start text)

-- 01, The sheet: "of the lent text itself": where the part stands in memory, the start counted from where the text stands
unfoldable pub offending_at : ℕ × ℕ → List ℕ → ℕ × ℕ
offending_at place text = (place.0, (read_sheet text).start + place.1)
