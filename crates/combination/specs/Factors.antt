-- Paper 01, "Effects and the 25 combinations": the factors, in tenths, row by row as the paper writes them; its letters for the
-- effects are the names that the loads have here.
-- Assumes nothing.
use Rattle.std.specs.Prelude.{cond, List, [], ◌∷◌, ◌++◌, map, ℕ, eqb, ℤ, pos, neg_ℤ, ◌+ℤ◌}
use Rattle.effects.specs.declared.Load.{Load}
use Rattle.effects.specs.declared.Load.TheVariants.{Dead as D, Live as L, Roof as Lr, Snow as S, Rain as R, Wind as W, Quake as E}
use Rattle.effects.specs.Check.{place_of}

-- 01, Effects and the 25 combinations: a term, so many tenths of an effect
pub record Term : Type 0 where
  pub tenths : ℤ
  pub load : Load

-- 01, Effects and the 25 combinations: a term such as 12D
infix 80 ◌·◌ ◌−·◌
abbrev pub ◌·◌ : ℕ → Load → Term
k · l = record { tenths = pos k; load = l }

-- 01, Effects and the 25 combinations: a term such as −5W
abbrev pub ◌−·◌ : ℕ → Load → Term
k −· l = record { tenths = neg_ℤ (pos k); load = l }

-- 01, Effects and the 25 combinations: "Q stands for Lr, S, R in turn"
abbrev in_turn : (Load → List (List Term)) → List (List Term)
in_turn rows = rows Lr ++ rows S ++ rows R

-- 01, Effects and the 25 combinations: a sum "and then" each of these terms, a row for each
abbrev and_then : List Term → List Term → List (List Term)
and_then sum terms = map (λ t. sum ++ (t ∷ [])) terms

-- 01, Effects and the 25 combinations: rows 1 to 25, a line for each of the paper's
unfoldable pub combinations : List (List Term)
combinations =
    -- "Row 1: 14D."
    (14 · D ∷ []) ∷ []
    -- "Rows 2 to 4: 12D + 16L + 5Q."
    ++ in_turn (λ Q. (12 · D ∷ 16 · L ∷ 5 · Q ∷ []) ∷ [])
    -- "Rows 5 to 13: for each Q, 12D + 16Q and then 10L, 5W, −5W."
    ++ in_turn (λ Q. and_then (12 · D ∷ 16 · Q ∷ []) (10 · L ∷ 5 · W ∷ 5 −· W ∷ []))
    -- "Rows 14 to 19: for each Q, 12D + 10L + 5Q and then 10W, −10W."
    ++ in_turn (λ Q. and_then (12 · D ∷ 10 · L ∷ 5 · Q ∷ []) (10 · W ∷ 10 −· W ∷ []))
    -- "Rows 20, 21: 12D + 10L + 2S, then 10E, −10E."
    ++ and_then (12 · D ∷ 10 · L ∷ 2 · S ∷ []) (10 · E ∷ 10 −· E ∷ [])
    -- "Rows 22, 23: 9D, then 10W, −10W."
    ++ and_then (9 · D ∷ []) (10 · W ∷ 10 −· W ∷ [])
    -- "Rows 24, 25: 9D, then 10E, −10E."
    ++ and_then (9 · D ∷ []) (10 · E ∷ 10 −· E ∷ [])

-- 01, Effects and the 25 combinations: the factor of an effect in a row, the tenths of its terms; 0 where it has none
unfoldable pub factor_in : List Term → Load → ℤ
factor_in [] l = pos 0
factor_in (t ∷ ts) l = cond (eqb (place_of t.load) (place_of l)) t.tenths (pos 0) +ℤ factor_in ts l

-- 01, Effects and the 25 combinations: "a table of 25 rows by seven, in tenths"
unfoldable pub factors : List (List ℤ)
factors = map (λ row. map (factor_in row) (D ∷ L ∷ Lr ∷ S ∷ R ∷ W ∷ E ∷ [])) combinations
