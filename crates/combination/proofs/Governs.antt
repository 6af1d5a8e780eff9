-- The search for the row that governs: its steps, and what it finds. Assumes nothing.
use Rattle.std.proofs.Common.{◌≡◌, refl, sym, ◌∙◌, ap, subst, Bool, true, false, true≢false, not, cond, ⊎_elim, List, [], ◌∷◌, ℕ, zero, suc, ◌+◌, ◌-◌, ◌≤◌, ◌<◌, eq-or-lt_of_le, le_of_suc-le-suc, not-suc-le-zero, add-one, arith, T, ℤ, pos, negsuc, nat_abs, length, get_or, drop, drop_of_length-le, drop-cons, le-ltb, ltb-true}
use Rattle.std.specs.Int.Signed.{lt_z, lt_z_no, <ℤ-≤ℤ_trans}
use Rattle.effects.specs.inner.Sized.{EachAtMost}
use Rattle.combination.specs.Governing.{greater, less, Best, better, best_from, best}
use Rattle.combination.specs.theorems.Governs.{GovernsFirst, Governs}

-- ---- a step of the search, and its end

module _ (beats : ℤ → ℤ → Bool) (ss : List ℤ) where
  pub best_step : (b : Best) (r i : ℕ) → i < length ss → best_from beats b r (drop i ss) ≡ best_from beats (better beats b r (get_or ss i (pos 0))) (suc r) (drop (suc i) ss)
  unfolding best_from
  best_step b r i h = rw (drop-cons ss i (pos 0) h)

  pub best_end : (b : Best) (r i : ℕ) → length ss ≤ i → best_from beats b r (drop i ss) ≡ b
  unfolding best_from
  best_end b r i h = rw (drop_of_length-le ss {i = i} h)

  pub best_first : 0 < length ss → best_from beats (record { row = 1; tenths = get_or ss 0 (pos 0) }) 2 (drop 1 ss) ≡ best beats ss
  unfolding best
  best_first h = go ss h
    where
      go : (l : List ℤ) → 0 < length l → best_from beats (record { row = 1; tenths = get_or l 0 (pos 0) }) 2 (drop 1 l) ≡ best beats l
      go [] k = absurd (not-suc-le-zero k)
      go (s ∷ l) k = refl

  -- the code begins before row 1, with its sum as the best so far
  pub best_begin : 0 < length ss → best_from beats (record { row = 1; tenths = get_or ss 0 (pos 0) }) 1 (drop 0 ss) ≡ best beats ss
  unfolding better
  best_begin h =
      let s = get_or ss 0 (pos 0) in
      let first : Best = record { row = 1; tenths = s } in
      let kept : cond (beats s s) first first ≡ first = elim (beats s s) as (λ t. cond t first first ≡ first) [ true ↦ refl | false ↦ refl ] in
      best_step first 1 0 h ∙ (ap (λ (b : Best). best_from beats b 2 (drop 1 ss)) kept ∙ best_first h)

  -- a turn of the code's loop: s is the sum at the index, and t says whether it beats the best sum so far
  pub best_turn : (i : ℕ) (b : Best) {b' : Best} {s : ℤ} {t : Bool} {end : Best} → i < length ss → s ≡ get_or ss i (pos 0) → t ≡ beats s b.tenths → b' ≡ cond t (record { row = i + 1; tenths = s }) b
      → best_from beats b (i + 1) (drop i ss) ≡ end
      → best_from beats b' (i + 1 + 1) (drop (i + 1) ss) ≡ end
  unfolding better
  best_turn i b {b'} {s} {t} h l k q e =
      let one : i + 1 ≡ suc i = add-one i in
      let row : i + 1 + 1 ≡ suc (suc i) = omega arith in
      let c : b' ≡ better beats b (suc i) (get_or ss i (pos 0)) = cc in
      rw (row, one, c) (sym (best_step b (suc i) i h) ∙ (rw one at e))

-- ---- less and greater are orders

-- of two sums at most one beats the other; what beats b beats all that b is not beaten by
pub record Order (beats : ℤ → ℤ → Bool) : Type 0 where
  pub one_way : (a b : ℤ) → beats a b ≡ true → beats b a ≡ false
  pub past : (a b c : ℤ) → beats a b ≡ true → beats c b ≡ false → beats a c ≡ true

less_one_way : (a b : ℤ) → lt_z a b ≡ true → lt_z b a ≡ false
less_one_way (pos a) (pos b) e = let h = ltb-true a b e in le-ltb b a (omega arith)
less_one_way (pos a) (negsuc b) e = absurd (true≢false (sym e))
less_one_way (negsuc a) (pos b) e = refl
less_one_way (negsuc a) (negsuc b) e = let h = ltb-true b a e in le-ltb a b (omega arith)

less_past : (a b c : ℤ) → lt_z a b ≡ true → lt_z c b ≡ false → lt_z a c ≡ true
less_past a b c e f = go (lt_z a c) (<ℤ-≤ℤ_trans {a = a} {b = b} {c = c} (record { lt = subst T (sym e) tt }) (lt_z_no {a = c} {b = b} (subst (λ (t : Bool). T (not t)) (sym f) tt))).lt
  where
    go : (t : Bool) → T t → t ≡ true
    go true h = refl
    go false h = absurd h

greater_past : (a b c : ℤ) → lt_z b a ≡ true → lt_z b c ≡ false → lt_z c a ≡ true
greater_past a b c e f = go (lt_z c a) refl
  where
    go : (t : Bool) → lt_z c a ≡ t → t ≡ true
    go true q = refl
    go false q = absurd (true≢false (sym (less_past b a c e q) ∙ f))

pub less_order : Order less
less_order = record { one_way = less_one_way; past = less_past }

pub greater_order : Order greater
greater_order = record { one_way = λ a b e. less_one_way b a e; past = greater_past }

-- ---- what the search finds governs

-- what holds below n, and of n, holds below n + 1
pub below_more : (n : ℕ) (P : ℕ → Type 0) → ((i : ℕ) → i < n → P i) → P n → (i : ℕ) → i < suc n → P i
below_more n P f p i h = ⊎_elim (λ e. subst P (sym e) p) (λ l. f i l) (eq-or-lt_of_le (le_of_suc-le-suc h))

module _ {beats : ℤ → ℤ → Bool} (o : Order beats) (ss : List ℤ) where
  never_itself : (a : ℤ) → beats a a ≡ false
  never_itself a = go (beats a a) refl
    where
      go : (t : Bool) → beats a a ≡ t → t ≡ false
      go true e = absurd (true≢false (sym e ∙ o.one_way a a e))
      go false e = refl

  -- b governs the first n rows
  abbrev Leads : ℕ → Best → Type 0
  Leads n b = GovernsFirst beats ss n b.row b.tenths

  -- one row more
  more : (n : ℕ) (b : Best) → Leads n b → Leads (suc n) (better beats b (suc n) (get_or ss n (pos 0)))
  unfolding better
  more n b g = go (beats s b.tenths) refl
    where
      s : ℤ
      s = get_or ss n (pos 0)

      go : (t : Bool) → beats s b.tenths ≡ t → Leads (suc n) (cond t (record { row = suc n; tenths = s }) b)
      go true e =
          record {
            index = n;
            among = omega arith;
            row_is = refl;
            sum_is = refl;
            unbeaten =
                below_more n (λ i. beats (get_or ss i (pos 0)) s ≡ false)
                (λ i h. o.one_way s (get_or ss i (pos 0)) (o.past s b.tenths (get_or ss i (pos 0)) e (g.unbeaten i h))) (never_itself s);
            lowest = λ i h. o.past s b.tenths (get_or ss i (pos 0)) e (g.unbeaten i h);
          }
      go false e =
          record {
            index = g.index;
            among = omega (arith, g.among);
            row_is = g.row_is;
            sum_is = g.sum_is;
            unbeaten = below_more n (λ i. beats (get_or ss i (pos 0)) b.tenths ≡ false) g.unbeaten e;
            lowest = g.lowest;
          }

  -- the d rows that are left
  rest : (d n : ℕ) (b : Best) → n + d ≡ length ss → Leads n b → Leads (length ss) (best_from beats b (suc n) (drop n ss))
  rest zero n b e g =
      let k : n ≡ length ss = omega arith in
      subst (Leads (length ss)) (sym (best_end beats ss b (suc n) n (omega arith))) (subst (λ (m : ℕ). Leads m b) k g)
  rest (suc d) n b e g =
      subst (Leads (length ss)) (sym (best_step beats ss b (suc n) n (omega arith)))
      (rest d (suc n) (better beats b (suc n) (get_or ss n (pos 0))) (omega arith) (more n b g))

  pub best_governs : 0 < length ss → Governs beats ss (best beats ss).row (best beats ss).tenths
  best_governs h =
      subst (Leads (length ss)) (best_first beats ss h)
      (rest (length ss - 1) 1 (record { row = 1; tenths = get_or ss 0 (pos 0) }) (omega arith)
      (record {
        index = 0;
        among = omega arith;
        row_is = refl;
        sum_is = refl;
        unbeaten = below_more 0 (λ i. beats (get_or ss i (pos 0)) (get_or ss 0 (pos 0)) ≡ false) (λ i l. nothing_below i l) (never_itself (get_or ss 0 (pos 0)));
        lowest = λ i l. nothing_below i l;
      }))
    where
      nothing_below : {A : Type 0} (i : ℕ) → i < 0 → A
      nothing_below i l = absurd (not-suc-le-zero l)

  -- and is no larger than the largest sum
  pub best_small : {most : ℕ} → 0 < length ss → EachAtMost most ss → nat_abs (best beats ss).tenths ≤ most
  best_small {most} h f = let g = best_governs h in subst (λ (z : ℤ). nat_abs z ≤ most) (sym g.sum_is) (f g.index)
