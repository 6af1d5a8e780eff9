-- Lists in another order.
-- Assumes nothing.
use mathlib.Core.List.{List, Permᴰ}

-- two lists with the same elements, as often, in any order: the library's permutations, which its laws are about
abbrev pub Permuted : {A : Type 0} → List A → List A → Type 0
Permuted xs ys = Permᴰ xs ys
