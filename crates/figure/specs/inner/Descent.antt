-- What the private functions that go down the floors have found.
-- Assumes nothing.
use Rattle.std.specs.Prelude.{◌≡◌, true, List, ◌++◌, map, ℕ, ◌-◌, ◌≤◌, ◌<◌, Option, Some, length, drop, set}
use Rattle.lists.specs.Lists.{All}
use Rattle.member.specs.Between.{between}
use Rattle.column.specs.declared.Member.{Member}
use Rattle.column.specs.Line.{lowest_floor, unpacked}
use Rattle.column.specs.inner.Sound.{line_at}
use Rattle.figure.specs.declared.Working.{Working}
use Rattle.figure.specs.declared.lines.Lines.{Lines}
use Rattle.figure.specs.declared.descent.Descent.{Descent}
use Rattle.figure.specs.Carried.{floors_of, influence_of}
use Rattle.figure.specs.inner.Totals.{At, DownTo, Below}
use Rattle.figure.specs.inner.Shared.{SharesOf}

-- the lines of a column that are left below those carried
abbrev pub left : List ℕ → Lines → List ℕ
left ns carried = drop (length carried.numbers.now) ns

-- all the lines of a floor, which stand first; those after them are below it
pub record RunAt (ns run : List ℕ) : Type 0 where
  pub rest : List ℕ
  pub is : ns ≡ run ++ rest
  pub some : 0 < length run
  pub same : All (At (line_at run 0).floor) (map unpacked run)
  pub below : All (Below (line_at run 0).floor) (map unpacked rest)

-- n, X and the figure put at a floor's place
abbrev pub working_put : List (Option Working) → Descent → List (Option Working)
working_put table d =
    set table (d.floor - 1) (Some (record { floors = d.shares.carried.floors; influence = d.shares.carried.influence; figure = d.figure }))

-- of the lines of a column, which are in order, those carried at a floor stand first, and what holds of them
pub record Descended (m : Member) (ns : List ℕ) (d : Descent) : Type 0 where
  pub code : between 1 12 m.code ≡ true
  pub first : ns ≡ d.carried.numbers.now ++ left ns d.carried
  pub floor_most : d.floor ≤ lowest_floor
  pub down : All (DownTo d.floor) (map unpacked d.carried.numbers.now)
  pub below : All (Below d.floor) (map unpacked (left ns d.carried))
  pub floors_most : d.shares.carried.floors ≤ length d.carried.numbers.now
  pub shares : SharesOf (floors_of (map unpacked d.carried.numbers.now)) (influence_of m (map unpacked d.carried.numbers.now)) d.shares

-- one floor further down, which is that of the first of the new lines
pub record NextOf (m : Member) (ns : List ℕ) (d : Descent) (new : List ℕ) (n : Descent) : Type 0 where
  pub descended : Descended m ns n
  pub carried : n.carried.numbers.now ≡ d.carried.numbers.now ++ new
  pub floor : n.floor ≡ (line_at new 0).floor
