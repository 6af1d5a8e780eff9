-- Paper 01, "Member, line, floor": a line, the entries of a list of numbers, and a line as one number.
-- Assumes nothing.
use Rattle.std.specs.Prelude.{List, [], ◌∷◌, ℕ, ◌+◌, ◌*◌, ◌/◌, ◌%◌}
use Rattle.column.specs.declared.Line.{Line}

-- 01, Member, line, floor: a line's four numbers
abbrev pub line : ℕ → ℕ → ℕ → ℕ → Line
line f c l a = record { floor = f; class = c; load = l; area = record { 0 = a } }

-- 01, Member, line, floor: "A line has four decimal numbers"; the entries of a list of numbers, four an entry. 01 says nothing
-- of one to three numbers left over at the end: they are no entry
unfoldable pub entries_of : List ℕ → List Line
entries_of (f ∷ (c ∷ (l ∷ (a ∷ ns)))) = line f c l a ∷ entries_of ns
entries_of (f ∷ (c ∷ (l ∷ []))) = []
entries_of (f ∷ (c ∷ [])) = []
entries_of (f ∷ []) = []
entries_of [] = []

-- 01, Member, line, floor: "A member holds at most 256 lines"
abbrev pub most_lines : ℕ
most_lines = 256

-- 01, Member, line, floor: a floor is "1 to 64"
abbrev pub lowest_floor : ℕ
lowest_floor = 64

-- No part of the paper: a line as one number, its floor from 2⁵⁰ on, its class from 2⁴⁸, its load from 2³² and its area
-- below 2²⁴; the rest is free for what a line may get later. A line within its limits comes back (`round`)
abbrev pub packed : Line → ℕ
packed l = l.floor * 1125899906842624 + l.class * 281474976710656 + l.load * 4294967296 + l.area.0

-- No part of the paper: the line that a number holds
unfoldable pub unpacked : ℕ → Line
unpacked n = line (n / 1125899906842624) (n / 281474976710656 % 4) (n / 4294967296 % 65536) (n % 16777216)

-- No part of the paper: the class and the load of the line that a number holds, as one number in their order
abbrev pub key_of : ℕ → ℕ
key_of n = n / 4294967296 % 262144
