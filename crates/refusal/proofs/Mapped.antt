-- What is told of an answer whose refusal gets something else back, by `map_err`. Assumes nothing.
use Rattle.std.proofs.Common.{◌≡◌, sym, ℕ}
use Rattle.std.specs.Prelude.{Result, Ok, Err}
use Rattle.std.specs.Result.{MatchResult, IsErrAnd}
use Rattle.std.proofs.lemmas.Result.{err_from_is_err_and}
use Rattle.refusal.specs.declared.Refused.{Refused}
use Rattle.refusal.specs.Said.{Told, gives, refused, told}

-- where the closure hands f of it back, and so does what is to be told
pub told_mapped : {A B C : Type 0} (f : B → C) (tells : Told B A → Told C A) → ((a : A) → tells (gives a) ≡ gives a) → ((n : ℕ) (b : B) → tells (refused n b) ≡ refused n (f b))
    → {Q : Refused B → Refused C → Type 0} (r : Result A (Refused B)) (m : Result A (Refused C)) → ((q : Refused B) (y : Refused C) → Q q y → y ≡ record { refusal = q.refusal; back = f q.back })
    → MatchResult r (λ a. m ≡ Ok a) (λ q. IsErrAnd m (Q q)) → told m ≡ tells (told r)
unfolding told
told_mapped f tells at_ok at_err (Ok a) m closure h = rw h (sym (at_ok a))
told_mapped f tells at_ok at_err (Err q) m closure h = let p = err_from_is_err_and m h in rw (p.1, closure q p.0 p.2) (sym (at_err _ q.back))
