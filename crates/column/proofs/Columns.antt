-- A column is the column of its member and its lines: reading them back, and one line more.
-- Assumes nothing.
use Rattle.std.proofs.Common.{◌≡◌, refl, sym, ◌∙◌, ap, List, [], ◌∷◌, ◌++◌, map, append_assoc, ℕ, suc, ◌+◌, ◌-◌, ◌≤◌, ◌<◌, arith, length, take, set, replicate, length-append, take_at}
use Rattle.std.proofs.lemmas.List.{map-append, length-map, length-replicate, set_at}
use Rattle.lists.specs.Lists.{All, none, more}
use Rattle.lists.proofs.Lists.{all_more, all_so}
use Rattle.column.specs.declared.Line.{Line}
use Rattle.column.specs.declared.Member.{Member}
use Rattle.column.specs.declared.Column.{Column}
use Rattle.column.specs.Line.{line, packed, unpacked}
use Rattle.column.specs.Column.{lines_of, column_of, column_from}
use Rattle.column.specs.inner.Sound.{InLimits}

four : {a b c d e f g h : ℕ} → e ≡ a → f ≡ b → g ≡ c → h ≡ d → line e f g h ≡ line a b c d
four p q r s = rw (p, q, r, s)

-- a line whose class, load and area have room in a number, as those of every number have, and a line within its limits
record Fits (l : Line) : Type 0 where
  class : l.class < 4
  load : l.load < 65536
  area : l.area.0 < 16777216

within : (l : Line) → InLimits l → Fits l
within l h = record { class = omega (arith, h.class); load = omega (arith, h.load); area = omega (arith, h.area) }

unpacked_fit : (ns : List ℕ) → All Fits (map unpacked ns)
unfolding unpacked
unpacked_fit [] = none
unpacked_fit (n ∷ ns) = more {x = unpacked n} (record { class = omega arith; load = omega arith; area = omega arith }) (unpacked_fit ns)

-- it comes back from its number
round : (l : Line) → Fits l → unpacked (packed l) ≡ l
unfolding unpacked
round l h = four (omega arith) (omega arith) (omega arith) (omega arith)

all_round : {ls : List Line} → All Fits ls → map unpacked (map packed ls) ≡ ls
all_round none = refl
all_round (more {x} h a) = rw (round x h, all_round a)

module _ (m : Member) (ls : List Line) where
  -- its lines are those it was made of
  lines_back : All Fits ls → lines_of (column_of m ls) ≡ ls
  unfolding lines_of column_of
  lines_back a = ap (map unpacked) (take_at (map packed ls) _ (length ls) (length-map ls packed)) ∙ all_round a

  pub column_lines : All InLimits ls → lines_of (column_of m ls) ≡ ls
  column_lines a = lines_back (all_so within a)

  -- it has 256 places
  pub column_size : length ls ≤ 256 → length (column_of m ls).held ≡ 256
  unfolding column_of
  column_size h =
      length-append (map packed ls) (replicate (256 - length ls) 0)
      ∙ rw (length-map ls packed, length-replicate {A = ℕ} (256 - length ls) 0) (omega arith)

  -- a line put into the first unused place is at the end of its lines
  pub column_more : (l : Line) → length ls < 256
      → column_from m (length ls + 1) (set (column_of m ls).held (length ls) (packed l)) ≡ column_of m (ls ++ (l ∷ []))
  unfolding column_of
  column_more l h =
      let n : 256 - length ls ≡ suc (256 - (length ls + 1)) = omega arith in
      let e : length (ls ++ (l ∷ [])) ≡ length ls + 1 = length-append ls (l ∷ []) in
      let zeros : List ℕ = replicate (256 - (length ls + 1)) 0 in
      let put : set (map packed ls ++ replicate (256 - length ls) 0) (length ls) (packed l) ≡ map packed (ls ++ (l ∷ [])) ++ zeros =
      ap (λ (k : ℕ). set (map packed ls ++ replicate k 0) (length ls) (packed l)) n
      ∙ (set_at (map packed ls) 0 zeros (packed l) (length ls) (length-map ls packed)
      ∙ sym (ap (λ (ns : List ℕ). ns ++ zeros) (map-append packed ls (l ∷ [])) ∙ append_assoc (map packed ls) (packed l ∷ []) zeros)) in
      rw (e, put)

-- so are those of any column and one more
pub more_lines : (m : Member) (c : Column) (l : Line) → InLimits l → lines_of (column_of m (lines_of c ++ (l ∷ []))) ≡ lines_of c ++ (l ∷ [])
unfolding lines_of
more_lines m c l h = lines_back m (lines_of c ++ (l ∷ [])) (all_more (unpacked_fit (take c.count c.held)) (within l h))
