-- What the report puts and answers, by what reading gave; and that with the line of a refusal it is all that takedown prints.
-- Assumes nothing.
use Rattle.std.proofs.Common.{◌≡◌, refl, sym, ◌∙◌, ap, List, [], ℕ, ◌≤◌, length, take, eq-eqb}
use Rattle.std.proofs.Math.Path.{subst⁻¹}
use Rattle.refusal.proofs.Said.{not_zero}
use Rattle.text.specs.Text.{joined}
use Rattle.text.specs.Put.{fronted}
use Rattle.io.specs.Counts.{IsPrefixLen}
use Rattle.text.proofs.Puts.{Front, fronted_take}
use Rattle.sheet.specs.Sheet.{Reading, read_sheet}
use Rattle.report.specs.Report.{Reported, takedown_of, refusal_text, report_of, put_of, reported_of}
use Rattle.report.specs.theorems.Prints.{Prints}

-- what reading gave tells what is put and answered
module _ (text : List ℕ) {r : Reading} (e : r ≡ read_sheet text) where
  pub put_read : r.number ≡ 0 → joined (takedown_of r.sheet) ≡ put_of text
  unfolding put_of
  put_read n = rw (← e, eq-eqb _ _ n) refl

  pub put_refused : 1 ≤ r.number → [] ≡ put_of text
  unfolding put_of
  put_refused n = rw (← e, not_zero n) refl

  pub reported : {k : ℕ} → k ≡ length (put_of text) → record { number = r.number; line = r.line; length = k } ≡ reported_of text
  unfolding reported_of
  reported p = rw (← e, p) refl

-- 01, The sheet: all that takedown prints
pub prints : (text : List ℕ) → Prints text
unfolding reported_of report_of
prints text =
    record {
      read = λ n. rw (eq-eqb _ _ n) refl;
      refused = λ n. rw (not_zero n) refl;
    }

-- so the text that is put at the front of a buffer is all that takedown prints, where a report or the line of its refusal is
-- put there
module _ (text before : List ℕ) {after : List ℕ} {r : Reported} (e : r ≡ reported_of text) where
  pub read_front : r.number ≡ 0 → after ≡ fronted (put_of text) before → IsPrefixLen r.length after → Front before (report_of text) after r.length
  unfolding reported_of
  read_front n p q =
      let all : report_of text ≡ put_of text = (prints text).read (sym (ap (λ (o : Reported). o.number) e) ∙ n) in
      record {
        ends = ap (λ (o : Reported). o.length) e ∙ sym (ap length all);
        is = p ∙ sym (ap (λ (t : List ℕ). fronted t before) all);
        counts = q;
      }

  pub refused_front : {between : List ℕ} {k : ℕ} → 1 ≤ r.number → between ≡ fronted (put_of text) before → k ≡ length (refusal_text r.number r.line)
      → after ≡ fronted (refusal_text r.number r.line) between → IsPrefixLen k after → Front before (report_of text) after k
  unfolding reported_of put_of fronted
  refused_front {between} n b q p c =
      let all : report_of text ≡ refusal_text r.number r.line = subst⁻¹ (λ (o : Reported). 1 ≤ o.number → report_of text ≡ refusal_text o.number o.line) e (prints text).refused n in
      let one : 1 ≤ (read_sheet text).number = rw (ap (λ (o : Reported). o.number) e) at n in
      let same : between ≡ before = b ∙ rw (not_zero one) refl in
      record {
        ends = q ∙ sym (ap length all);
        is = p ∙ (ap (fronted (refusal_text r.number r.line)) same ∙ sym (ap (λ (t : List ℕ). fronted t before) all));
        counts = c;
      }

  -- and its first bytes are, whatever stood behind them
  pub read_taken : r.number ≡ 0 → after ≡ fronted (put_of text) before → take r.length after ≡ report_of text
  unfolding reported_of
  read_taken n p = ap (λ (o : Reported). take o.length after) e ∙ (ap (take (length (put_of text))) p ∙ (fronted_take (put_of text) before ∙ sym ((prints text).read (sym (ap (λ (o : Reported). o.number) e) ∙ n))))

  pub refused_taken : {k : ℕ} → 1 ≤ r.number → k ≡ length (refusal_text r.number r.line) → after ≡ fronted (refusal_text r.number r.line) before
      → take k after ≡ report_of text
  refused_taken n q p =
      let t = refusal_text r.number r.line in
      ap (λ (k : ℕ). take k after) q
      ∙ (ap (take (length t)) p
      ∙ (fronted_take t before ∙ sym (subst⁻¹ (λ (o : Reported). 1 ≤ o.number → report_of text ≡ refusal_text o.number o.line) e (prints text).refused n)))
