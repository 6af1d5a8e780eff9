-- The number of a class of use, and which numbers are classes.
-- Assumes nothing.
use Rattle.std.specs.Prelude.{◌≡◌, false, ℕ, Result, Ok, Err}
use Rattle.refusal.specs.declared.Refusal.{Refusal}
use Rattle.refusal.specs.declared.Refusal.TheVariants.{UnknownClass}
use Rattle.reduction.specs.declared.class.Class.{Class}
use Rattle.reduction.specs.declared.class.Class.TheVariants.{Ordinary, Garage, Assembly}
use Rattle.member.specs.Between.{between}

abbrev pub class_number : Class → ℕ
class_number Ordinary = 1
class_number Garage = 2
class_number Assembly = 3

-- a class has its number; any other number than 1 to 3 is refused
abbrev pub IsClass : ℕ → Result Class Refusal → Type 0
IsClass n (Ok c) = n ≡ class_number c
IsClass n (Err r) = (between 1 3 n ≡ false) × (r ≡ UnknownClass)
