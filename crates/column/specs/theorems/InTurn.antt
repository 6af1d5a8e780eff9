-- Paper 01, "Member, line, floor" and "Reduced load and figure": lines that a column may hold, and lines accepted in turn.
-- Assumes nothing.
use Rattle.std.specs.Prelude.{◌≡◌, List, [], ◌∷◌, ◌++◌, ◌≤◌, length}
use Rattle.lists.specs.Lists.{All}
use Rattle.column.specs.declared.Line.{Line}
use Rattle.column.specs.declared.Member.{Member}
use Rattle.column.specs.Line.{most_lines}
use Rattle.column.specs.Accepted.{entry_number}
use Rattle.column.specs.inner.Sound.{InLimits}

-- 01, Member, line, floor: "A member holds at most 256 lines", each of which has its four numbers within their limits
pub record Holdable (ls : List Line) : Type 0 where
  pub few : length ls ≤ most_lines
  pub lines : All InLimits ls

-- 01, Reduced load and figure: lines that are accepted in turn: none, or such lines and one more that joins their end, since no
-- condition for entering it holds where they are the accepted lines so far
pub data AcceptedInTurn (m : Member) : List Line → Type 0 where
  none : AcceptedInTurn m []
  more : (ls : List Line) (l : Line) → AcceptedInTurn m ls → entry_number m ls l ≡ 0 → AcceptedInTurn m (ls ++ (l ∷ []))
