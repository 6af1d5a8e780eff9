-- A number is read where its decimal digits are written, and nowhere else.
-- Assumes nothing.
use Rattle.std.proofs.Common.{◌≡◌, refl, ◌∙◌, ap, Bool, true, false, cond, List, [], ◌∷◌, ◌++◌, append_assoc, ℕ, zero, suc, ◌+◌, ◌-◌, ◌*◌, ◌/◌, ◌%◌, ◌^◌, ◌≤◌, ◌<◌, arith, ltb, eqb, length, drop, length-append, drop-drop, lt-ltb, le-ltb, ne_eqb, ltb-true, ltb-false}
use Rattle.text.specs.Text.{decimal}
use Rattle.text.proofs.Decimal.{decimal_small, decimal_more, length_some, length_most, tenth}
use Rattle.std.specs.Prelude.{Option, Some, None, option_map, unwrap_or}
use Rattle.std.proofs.Math.Seq.{drop-append_seam}
use Rattle.std.proofs.lemmas.Bool.{eqb-false}
use Rattle.sheet_lines.specs.declared.number.Read.{Read}
use Rattle.sheet_lines.specs.Number.{may_grow, number_ended, number_from, number_at}
use Rattle.sheet_lines.proofs.AtPlace.{read, chosen, grow_only}

-- ---- a number that is written is read

step : (c v p d : ℕ) (s : List ℕ) → d < 10 → may_grow c v ≡ true → number_from c v p ((48 + d) ∷ s) ≡ number_from (c + 1) (v * 10 + d) (p + 1) s
unfolding number_from
step c v p d s h m =
    let e : 48 + d - 48 ≡ d = omega arith in
    rw (le-ltb (48 + d) 48 (omega arith), le-ltb 57 (48 + d) (omega arith), m, e)

may_grow_lem : (c v : ℕ) → 0 < v → c < 13 → may_grow c v ≡ true
unfolding may_grow
may_grow_lem c v h k = go (eqb c 0)
  where
    go : (t : Bool) → cond t true (cond (eqb v 0) false (ltb c 13)) ≡ true
    go true = refl
    go false = rw (ne_eqb v 0 (omega arith)) (lt-ltb c 13 k)

abbrev GoesOver : ℕ → ℕ → List ℕ → Type 0
GoesOver n p s = number_from 0 0 p (decimal n ++ s) ≡ number_from (length (decimal n)) n (p + length (decimal n)) s

over_one : (n p : ℕ) (s : List ℕ) → n < 10 → GoesOver n p s
unfolding may_grow
over_one n p s h = let z : 0 * 10 + n ≡ n = omega arith in rw (decimal_small n h) (step 0 0 p n s h refl ∙ rw z)

-- reading goes over the digits, and has their value
over : (f n p : ℕ) (s : List ℕ) → f < 13 → n < 10 ^ suc f → GoesOver n p s
over zero n p s b h = over_one n p s h
over (suc f) n p s b h = go (ltb n 10) refl (over f (n / 10) p ((48 + n % 10) ∷ s) (omega arith) (tenth (suc f) n h))
  where
    go : (t : Bool) → ltb n 10 ≡ t → GoesOver (n / 10) p ((48 + n % 10) ∷ s) → GoesOver n p s
    go true e ih = over_one n p s (ltb-true n 10 e)
    go false e ih =
        let k : ℕ = length (decimal (n / 10)) in
        let w : k ≤ suc f = length_most f (n / 10) (tenth (suc f) n h) in
        let big : 10 ≤ n = ltb-false n 10 e in
        let z : n / 10 * 10 + n % 10 ≡ n = omega arith in
        let y : p + k + 1 ≡ p + (k + 1) = omega arith in
        rw (decimal_more n big, append_assoc, length-append)
        (ih ∙ step k (n / 10) (p + k) (n % 10) s (omega arith) (may_grow_lem k (n / 10) (omega arith) (omega arith)) ∙ rw (z, y))

-- no digit stands first in a text
pub record NoDigit (s : List ℕ) : Type 0 where
  pub stops : (c v p : ℕ) → number_from c v p s ≡ number_ended c v p

-- none stands at the end of a line
pub stops_end : NoDigit []
unfolding number_from
stops_end = record { stops = λ c v p. refl }

-- nor where a byte below the digits does
pub stops_low : (b : ℕ) (s : List ℕ) → b < 48 → NoDigit (b ∷ s)
unfolding number_from
stops_low b s h = record { stops = λ c v p. rw (lt-ltb b 48 h) }

ended_some : (c v p : ℕ) → 0 < c → number_ended c v p ≡ Some (read v p)
unfolding number_ended
ended_some c v p h = rw (ne_eqb c 0 (λ z. omega arith))

-- a number that is written is read
pub number_to : (l : List ℕ) (at n : ℕ) (s : List ℕ) → n < 10000000000000 → NoDigit s → drop at l ≡ decimal n ++ s
    → number_at l at ≡ Some (read n (at + length (decimal n)))
unfolding number_at
number_to l at n s h t e =
    let c : ℕ = length (decimal n) in
    rw e (over 12 n at s (omega arith) h ∙ t.stops c n (at + c) ∙ ended_some c n (at + c) (length_some n))

-- ---- a number that is read was written

-- pre are the c digits of v that stand before a place
data Part (c v : ℕ) (pre : List ℕ) : Type 0 where
  none : c ≡ 0 → v ≡ 0 → pre ≡ [] → Part c v pre
  some : 0 < c → pre ≡ decimal v → Part c v pre

grown : (c v b : ℕ) (pre : List ℕ) → Part c v pre → may_grow c v ≡ true → 48 ≤ b → b ≤ 57 → pre ++ (b ∷ []) ≡ decimal (v * 10 + (b - 48))
grown c v b pre (none z y e) m lo hi =
    let x : v * 10 + (b - 48) ≡ b - 48 = omega arith in
    let back : 48 + (b - 48) ≡ b = omega arith in
    rw (e, x, decimal_small (b - 48) (omega arith), back)
grown c v b pre (some h e) m lo hi =
    let big : 0 < v = (grow_only c v m).1 h in
    let x : (v * 10 + (b - 48)) / 10 ≡ v = omega arith in
    let y : 48 + (v * 10 + (b - 48)) % 10 ≡ b = omega arith in
    rw (decimal_more (v * 10 + (b - 48)) (omega arith), x, y, e)

-- what a number is read from: its decimal digits, and then what stands at the place after them
record From (given : List ℕ) (end v q : ℕ) : Type 0 where
  after : List ℕ
  text : given ≡ decimal v ++ after
  place : q + length after ≡ end

from_ended : (c v p v' q : ℕ) (pre s : List ℕ) → Part c v pre → number_ended c v p ≡ Some (read v' q) → From (pre ++ s) (p + length s) v' q
unfolding number_ended
from_ended c v p v' q pre s r e = chosen (eqb c 0) None (Some (read v p)) (Some (read v' q)) e (λ h k. let z : ◌≡◌ {A = ℕ} 0 1 = cc in absurd (omega arith)) (go r)
  where
    go : Part c v pre → eqb c 0 ≡ false → Some (read v p) ≡ Some (read v' q) → From (pre ++ s) (p + length s) v' q
    go (none z y x) h k = absurd (eqb-false c 0 h z)
    go (some z x) h k =
        let a : v ≡ v' = ap (λ (o : Option Read). unwrap_or (option_map (λ r. r.value) o) 0) k in
        let b : p ≡ q = ap (λ (o : Option Read). unwrap_or (option_map (λ r. r.next) o) 0) k in
        record { after = s; text = ap (λ (l : List ℕ). l ++ s) (x ∙ ap decimal a); place = omega arith }

from_bytes : (s : List ℕ) (c v p v' q : ℕ) (pre : List ℕ) → Part c v pre → number_from c v p s ≡ Some (read v' q) → From (pre ++ s) (p + length s) v' q
unfolding number_from
from_bytes [] c v p v' q pre r e = from_ended c v p v' q pre [] r e
from_bytes (b ∷ s) c v p v' q pre r e =
    let w : ℕ = v * 10 + (b - 48) in
    let on : Part (c + 1) w (pre ++ (b ∷ [])) → number_from (c + 1) w (p + 1) s ≡ Some (read v' q) → From (pre ++ (b ∷ []) ++ s) (p + 1 + length s) v' q
    = from_bytes s (c + 1) w (p + 1) v' q (pre ++ (b ∷ [])) in
    let same : p + 1 + length s ≡ p + suc (length s) = omega arith in
    chosen (ltb b 48) (number_ended c v p) _ (Some (read v' q)) e (λ _ k. from_ended c v p v' q pre (b ∷ s) r k) λ lo e.
    chosen (ltb 57 b) (number_ended c v p) _ (Some (read v' q)) e (λ _ k. from_ended c v p v' q pre (b ∷ s) r k) λ hi e.
    chosen (may_grow c v) (number_from (c + 1) w (p + 1) s) None (Some (read v' q)) e
    (λ m k. rw (append_assoc, same) at (on (some (omega arith) (grown c v b pre r m (ltb-false b 48 lo) (ltb-false 57 b hi))) k))
    λ _ k. let z : ◌≡◌ {A = ℕ} 0 1 = cc in absurd (omega arith)

after_place : (l : List ℕ) (at v p : ℕ) → From (drop at l) (at + length (drop at l)) v p → drop at l ≡ decimal v ++ drop p l
after_place l at v p f =
    let k : ℕ = length (decimal v) in
    let len : length (drop at l) ≡ k + length f.after = ap length f.text ∙ length-append (decimal v) f.after in
    let q : p ≡ at + k = omega (arith, f.place) in
    let w : drop p l ≡ f.after = rw (q, ← drop-drop k at l, f.text) (drop-append_seam (decimal v) f.after) in
    rw w f.text

-- a number that is read was written, before the place that reading came to
pub number_from_lem : (l : List ℕ) (at v p : ℕ) → number_at l at ≡ Some (read v p) → drop at l ≡ decimal v ++ drop p l
unfolding number_at
number_from_lem l at v p e = after_place l at v p (from_bytes (drop at l) 0 0 at v p [] (none refl refl refl) e)
