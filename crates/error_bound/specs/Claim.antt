-- Paper 01, "Reduced load and figure", demand 3: the claim about the whole list of entries, in one piece.
-- After the whole list, at each floor f that has an accepted line, E ≤ F < E + A: F is the figure that asking at f gives,
-- E the exact total, in which R is replaced by share × Lo, and A the summed area, all over the lines carried at f.
-- Assumes nothing.
use Rattle.std.specs.Prelude.{◌≡◌, true, cond, List, ◌⊎◌, ℕ, ◌+◌, ◌*◌, ◌-◌, ◌≤◌, ◌<◌, eqb}
use Rattle.refusal.specs.Said.{Said, gives}
use Rattle.reduction.specs.declared.share.Share.{Share}
use Rattle.reduction.specs.declared.share.Share.TheVariants.{Twentieths, Root}
use Rattle.reduction.specs.Least.{sq}
use Rattle.reduction.specs.Share.{formula_share, other_twentieths}
use Rattle.column.specs.declared.Line.{Line}
use Rattle.column.specs.declared.Member.{Member}
use Rattle.figure.specs.declared.Working.{Working}
use Rattle.lists.specs.Lists.{total}
use Rattle.figure.specs.Carried.{formula_lines, other_lines, carried, has_floor, floors_of, area_of, influence_of}
use Rattle.column.specs.Column.{opened_of}

-- 01, Reduced load and figure: T, the sum of Lo × area over the formula lines carried
unfoldable pub formula_total : List Line → ℕ
formula_total ls = total (λ l. l.load * l.area.0) (formula_lines ls)

-- 01, Reduced load and figure: 20 × P, P being the sum of share × Lo × area over the other lines carried, where n floors are
-- carried (`other_twentieths` is 20 × share, reduction/specs/Share.antt)
unfoldable pub twenty_p : ℕ → List Line → ℕ
twenty_p n ls = total (λ l. other_twentieths l.class n * (l.load * l.area.0)) (other_lines ls)

-- 01, Reduced load and figure: 20 × E without a root, where the formula lines' share is k twentieths
abbrev pub twenty_e : ℕ → ℕ → ℕ → ℕ
twenty_e k T P20 = P20 + k * T

-- 01, Reduced load and figure: G = 20F − 20P − 5T; 0 where that is negative: E ≤ F asks beside it that G is not negative
abbrev pub G : ℕ → ℕ → ℕ → ℕ
G T P20 F = 20 * F - (P20 + 5 * T)

-- 01, Reduced load and figure: G − 20A; 0 where that is negative, so that of F < E + A the first case holds, and the second
-- decides nothing
abbrev pub GLess20A : ℕ → ℕ → ℕ → ℕ → ℕ
GLess20A T P20 A F = 20 * F - (P20 + 5 * T + 20 * A)

-- 01, Reduced load and figure: E ≤ F. In whole numbers 20E ≤ 20F; with the root at X, G is not negative and X × G² ≥ (914 × T)²
unfoldable pub NotBelowExact : Share → ℕ → ℕ → ℕ → Type 0
NotBelowExact (Twentieths k) T P20 F = twenty_e k T P20 ≤ 20 * F
NotBelowExact (Root X) T P20 F = (P20 + 5 * T ≤ 20 * F) × (sq (914 * T) ≤ X.0 * sq (G T P20 F))

-- 01, Reduced load and figure: F < E + A. In whole numbers 20F < 20E + 20A; with the root at X, G − 20A is negative or
-- X × (G − 20A)² < (914 × T)²
unfoldable pub BelowExactPlus : Share → ℕ → ℕ → ℕ → ℕ → Type 0
BelowExactPlus (Twentieths k) T P20 A F = 20 * F < twenty_e k T P20 + 20 * A
BelowExactPlus (Root X) T P20 A F =
    (20 * F < P20 + 5 * T + 20 * A) ⊎ (X.0 * sq (GLess20A T P20 A F) < sq (914 * T))

-- 01, Reduced load and figure: E ≤ F < E + A
pub record Within (s : Share) (T P20 A F : ℕ) : Type 0 where
  pub low : NotBelowExact s T P20 F
  pub high : BelowExactPlus s T P20 A F

-- 01, Reduced load and figure: which case holds. Where T is 0 whole numbers are compared, at any share, since k × 0 is 0. Else
-- the formula lines' share tells, twentieths where it is clamped and the root where not, by squares (`formula_share`)
unfoldable pub exact_share : ℕ → Share → Share
exact_share T s = cond (eqb T 0) (Twentieths 20) s

-- 01, Reduced load and figure: E ≤ F < E + A for a member's lines carried; A is their summed area, whatever their class
unfoldable pub Bounded : Member → List Line → ℕ → Type 0
Bounded m ls F =
    Within (exact_share (formula_total ls) (formula_share (floors_of ls) (influence_of m ls)))
    (formula_total ls) (twenty_p (floors_of ls) ls) (area_of ls) F

-- 01, Reduced load and figure: an answer at floor f, for these accepted lines, gives a figure F, and that is within the bounds
pub record Answered (m : Member) (ls : List Line) (f : ℕ) (answer : Said Working) : Type 0 where
  pub working : Working
  pub given : answer ≡ gives working
  pub bounded : Bounded m (carried f ls) working.figure

-- 01, Reduced load and figure: demand 3 of one answer, for a member that is opened and a floor that has an accepted line
unfoldable pub Claim : Member → List Line → ℕ → Said Working → Type 0
Claim m ls f answer = (opened_of m).number ≡ 0 → has_floor f ls ≡ true → Answered m ls f answer
