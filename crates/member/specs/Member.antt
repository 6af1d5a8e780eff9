-- Paper 01, "Member, line, floor": the factor K of a member's code, CIRSOC 101, Table 4.2.
-- Assumes nothing.
use Rattle.std.specs.Prelude.{cond, List, [], ◌∷◌, ℕ, get_or}
use Rattle.refusal.specs.Said.{Said, gives, refused, nothing}
use Rattle.member.specs.Between.{between}

-- 01, Member, line, floor: Table 4.2, the column K, a line a code from 1 to 12
unfoldable pub table4_2 : List ℕ
table4_2 =
    4  -- 1 interior column
    ∷ 4  -- 2 exterior column, no cantilever slab
    ∷ 3  -- 3 edge column with cantilever slab
    ∷ 2  -- 4 corner column with cantilever slab
    ∷ 2  -- 5 edge beam, no cantilever slab
    ∷ 2  -- 6 interior beam
    ∷ 1  -- 7 edge beam with cantilever slab
    ∷ 1  -- 8 cantilever beam
    ∷ 1  -- 9 one-way slab
    ∷ 1  -- 10 two-way slab
    ∷ 1  -- 11 no continuous shear transfer
    ∷ 1  -- 12 any other
    ∷ []

-- 01, Member, line, floor: K of a code 1 to 12, by Table 4.2; 0 of any other number, which is no code
unfoldable pub table_factor : ℕ → ℕ
table_factor code = get_or (0 ∷ table4_2) code 0

-- 01, Member, line, floor and Numbers by the place of checking: K; the refusal 1 where the code is not 1 to 12
unfoldable pub factor_of : ℕ → Said ℕ
factor_of code = cond (between 1 12 code) (gives (table_factor code)) (refused 1 nothing)
