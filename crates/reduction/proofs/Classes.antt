-- The number of a class of use is 1 to 3.
-- Assumes nothing.
use Rattle.std.proofs.Common.{◌≡◌, refl, true}
use Rattle.member.specs.Between.{between}
use Rattle.reduction.specs.declared.class.Class.{Class}
use Rattle.reduction.specs.declared.class.Class.TheVariants.{Ordinary, Garage, Assembly}
use Rattle.reduction.specs.inner.Class.{class_number}

pub class_between : (c : Class) → between 1 3 (class_number c) ≡ true
class_between Ordinary = refl
class_between Garage = refl
class_between Assembly = refl
