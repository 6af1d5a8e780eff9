-- The place of a load is the number that stands beside it, and the loads are numbered in a row. Assumes nothing.
use denote.Enum.Declared.{tag_of}
use Rattle.std.proofs.Common.{◌≡◌, ◌+◌, refl}
use Rattle.effects.specs.declared.Load.{Load}
use Rattle.effects.specs.declared.Load.TheVariants.{Dead, Live, Roof, Snow, Rain, Wind, Quake}
use Rattle.effects.specs.contracts.Load.{the_type}
use Rattle.effects.specs.Check.{place_of}

pub numbered : (l : Load) → tag_of the_type l + 1 ≡ place_of l
unfolding place_of
numbered Dead = refl
numbered Live = refl
numbered Roof = refl
numbered Snow = refl
numbered Rain = refl
numbered Wind = refl
numbered Quake = refl
