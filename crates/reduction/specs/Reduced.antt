-- Paper 01, "Reduced load and figure": the reduced load R, by whole numbers and squares.
-- Assumes nothing.
use Rattle.std.specs.Prelude.{Bool, cond, ◌&&◌, ℕ, ◌*◌, ◌-◌, leb}
use Rattle.refusal.specs.Said.{Said, gives, refused, nothing}
use Rattle.reduction.specs.declared.InfluenceArea.{InfluenceArea}
use Rattle.reduction.specs.declared.share.Share.{Share}
use Rattle.reduction.specs.declared.share.Share.TheVariants.{Twentieths, Root}
use Rattle.member.specs.Between.{between}
use Rattle.reduction.specs.Least.{sq, least_from}
use Rattle.reduction.specs.Share.{share_of}

-- 01, Reduced load and figure: R is not below share × Lo; with the root, 4R ≥ Lo and 25 × X × (4R − Lo)² ≥ (914 × Lo)²
unfoldable pub reaches : Share → ℕ → ℕ → Bool
reaches (Twentieths k) load r = leb (k * load) (20 * r)
reaches (Root x) load r = leb load (4 * r) && leb (sq (914 * load)) (25 * x.0 * sq (4 * r - load))

-- 01, Reduced load and figure: R, the least whole number not below share × Lo. No share at 1 dm² or more passes 46
unfoldable pub reduced : Share → ℕ → ℕ
reduced s load = least_from (reaches s load) 0 (46 * load)

-- 01, Reduced load and figure: R of a line. 01, Numbers by the place of checking: 4 where the class is not 1 to 3, then 5 where
-- the load is not 1 to 50,000
unfoldable pub reduced_of : ℕ → ℕ → ℕ → InfluenceArea → Said ℕ
reduced_of load class n x =
    cond (between 1 3 class)
    (cond (between 1 50000 load) (gives (reduced (share_of load class n x) load)) (refused 5 nothing))
    (refused 4 nothing)
