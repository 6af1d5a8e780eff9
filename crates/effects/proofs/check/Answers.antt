-- `effects::check` meets its contract: seven numbers are one for each load. Assumes nothing.
use Rattle.std.proofs.Common.{◌≡◌, ◌∙◌, sym, List, [], ◌∷◌, ℕ, arith, lit<, ℤ, pos, get_or, w64, to_z, of_z}
use Rattle.std.proofs.lemmas.Result.{err_from_is_err_and}
use Rattle.refusal.specs.Said.{told}
use Rattle.newtons.specs.Effect.{limit}
use Rattle.newtons.proofs.Word.{kept}
use Rattle.effects.specs.Check.{listed, newtons_of, checked_from, checked_of, said_checked}
use Rattle.effects.specs.inner.Sized.{Seven}
use Rattle.effects.proofs.Checks.{checked_seven}
use Rattle.effects.proofs.check.Goals as goal
use Rattle.effects.proofs.check.Goals.{After-check_each}

-- what is checked are the effects as listed
tells : (c : After-check_each) → told c.check_each.result ≡ checked_of c.args.effects
unfolding checked_of listed
tells c = c.check_each.ensures ∙ λ i. checked_from [] (c.new.ensures i ∷ c.new-2.ensures i ∷ c.new-3.ensures i ∷ c.new-4.ensures i ∷ c.new-5.ensures i ∷ c.new-6.ensures i ∷ c.new-7.ensures i ∷ [])

pub returns-in_err-dead : goal.returns-in_err-dead
unfolding said_checked told
returns-in_err-dead c =
    let p = err_from_is_err_and c.from_residual.result c.from_residual.ensures.1 in
    rw (p.1, p.2) (rw c.in_err-dead.was at (tells (goal.at.returns-in_err-dead c).After-check_each))

-- the number at an index as 64 bits keep it
abbrev at : List ℤ → ℕ → ℤ
at xs k = to_z w64 (of_z w64 (get_or xs k (pos 0)))

seven_kept : (xs : List ℤ) → Seven limit xs → (at xs 0 ∷ at xs 1 ∷ at xs 2 ∷ at xs 3 ∷ at xs 4 ∷ at xs 5 ∷ at xs 6 ∷ []) ≡ xs
seven_kept (a ∷ b ∷ c ∷ d ∷ e ∷ f ∷ g ∷ []) s =
    let small = lit< tt in
    simp (kept {z = a} (s.each 0) small, kept {z = b} (s.each 1) small, kept {z = c} (s.each 2) small, kept {z = d} (s.each 3) small, kept {z = e} (s.each 4) small, kept {z = f} (s.each 5) small, kept {z = g} (s.each 6) small)
seven_kept xs s = absurd (omega (arith, s.count))

pub returns : goal.returns
unfolding newtons_of said_checked told
returns c =
    let t = rw c.in_ok-dead.was at (tells (goal.at.returns c).After-check_each) in
    rw (seven_kept _ (checked_seven c.args.effects (sym t))) t
