-- What the answer of a test that was called says of the numbers.
-- Assumes nothing.
use Rattle.std.proofs.Common.{◌≡◌, sym, ◌∙◌, Bool, true, false, ℕ, ◌≤◌, leb-true, le-leb, leb}
use Rattle.std.proofs.lemmas.Bool.{and_parts}
use Rattle.member.specs.Between.{between}

-- a call b of the test t, and the branch on it that was taken
pub passed : {b t : Bool} → b ≡ t → b ≡ true → t ≡ true
passed e h = sym e ∙ h

pub failed : {b t : Bool} → b ≡ t → b ≡ false → t ≡ false
failed e h = sym e ∙ h

-- a number between limits
pub limits : (low high n : ℕ) → between low high n ≡ true → (low ≤ n) × (n ≤ high)
limits low high n h =
    let both = and_parts (leb low n) (leb n high) h in
    (leb-true _ _ both.0, leb-true _ _ both.1)

pub in_limits : (low high n : ℕ) → low ≤ n → n ≤ high → between low high n ≡ true
in_limits low high n h k = rw (le-leb low n h, le-leb n high k)
