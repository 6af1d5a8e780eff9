-- Paper 01, "The sheet" and "Numbers by the place of checking": a sheet is read exactly when its text says one that keeps
-- the limits; and what a refusal says.
-- Assumes nothing.
use Rattle.std.specs.Prelude.{◌≡◌, false, List, [], ◌++◌, ℕ, suc, ◌+◌, ◌≤◌, ◌<◌, length, take, drop}
use Rattle.text.specs.Lines.{ended, text_of}
use Rattle.text.specs.theorems.Texts.{newlines}
use Rattle.sheet_lines.specs.declared.Due.{Due}
use Rattle.sheet.specs.declared.Sheet.{Sheet}
use Rattle.sheet.specs.declared.steps.Draft.{Draft}
use Rattle.sheet.specs.Sheet.{Reading, unread, is_complete, line_taken, reading, read_sheet}
use Rattle.sheet.specs.Keeps.{Keeps}
use Rattle.sheet.specs.inner.SoFar.{KeepsSoFar}
use Rattle.sheet_text.specs.Written.{lines_in, written}
use Rattle.sheet_text.specs.theorems.Saying.{SayBefore, Say}

-- 01, The sheet: what reading lines that say a sheet gives: 0, the last line, "the empty part at the end", and the sheet
unfoldable pub read_as : Sheet → List (List ℕ) → Reading
read_as s ls = record { number = 0; line = length ls; start = length (text_of ls); end = length (text_of ls); sheet = s }

-- 01, Numbers by the place of checking: a number is given "where its condition is the first to hold, and never else"; a text
-- that is read says the sheet that was read, which keeps the limits
pub record ReadIsSaid (text : List ℕ) : Type 0 where
  pub lines : List (List ℕ)
  pub is : text ≡ text_of lines
  pub say : Say (read_sheet text).sheet lines
  pub keeps : Keeps (read_sheet text).sheet

-- 01, The sheet: lines that say a sheet that keeps the limits are read as that sheet; so are those that a writer writes; and
-- what is read was written so
pub record Exactly : Type 0 where
  pub said : (text : List ℕ) → (read_sheet text).number ≡ 0 → ReadIsSaid text
  pub read : (s : Sheet) (ls : List (List ℕ)) → Say s ls → Keeps s → read_sheet (text_of ls) ≡ read_as s ls
  pub back : (s : Sheet) → Keeps s → read_sheet (written s) ≡ read_as s (lines_in s)
  pub only : (text : List ℕ) → (read_sheet text).number ≡ 0 → text ≡ written (read_sheet text).sheet

-- 01, The sheet and Numbers by the place of checking: what is wrong at the draft d with the rest of a text, from the
-- offending line on
pub data Fault (d : Draft) (rest : List ℕ) (r : Reading) : Type 0 where
  -- a line is missing: the empty part at the end
  missing : rest ≡ [] → is_complete d.due ≡ false → r.number ≡ 10 → r.end ≡ r.start → Fault d rest r
  -- the last line lacks its newline: the part runs to the end of the text
  unended : (rest ≡ [] → ⊥) → newlines rest ≡ 0 → r.number ≡ 10 → r.end ≡ r.start + length rest → Fault d rest r
  -- a line is refused by its form or its values: the line without its newline
  refused : (l after : List ℕ) → rest ≡ ended l ++ after → newlines l ≡ 0 → r.number ≡ (line_taken d l).number → r.end ≡ r.start + length l → Fault d rest r

-- 01, The sheet: reading stops at the first fault. The lines before it were taken: they say the sheet so far, which keeps
-- the limits; K counts them and one more
pub record StopsAtFault (text : List ℕ) (r : Reading) : Type 0 where
  pub due : Due
  pub kept : KeepsSoFar due r.sheet
  pub lines : List (List ℕ)
  pub say : SayBefore due r.sheet lines
  pub inside : r.start ≤ length text
  pub before : take r.start text ≡ text_of lines
  pub line : r.line ≡ suc (length lines)
  pub fault : Fault (record { due = due; sheet = r.sheet }) (drop r.start text) r

-- 01, Numbers by the place of checking: each refusal is that of the first fault; 11, "length first", has K = 0 and the empty
-- part at the start
pub record RefusedAtFirst : Type 0 where
  pub stops : (text : List ℕ) → length text ≤ 32768 → ((read_sheet text).number ≡ 0 → ⊥) → StopsAtFault text (read_sheet text)
  pub long : (text : List ℕ) → 32768 < length text → read_sheet text ≡ reading 11 0 0 0 unread
