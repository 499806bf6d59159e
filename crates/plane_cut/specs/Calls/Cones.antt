-- The cone that some rows span, seen by the planes that have all of the rows on one side.
use Rattle.std.specs.Prelude.{◌↔◌, pos, ◌<ℤ◌, List, [], ◌∷◌, Option, MatchOption}
use Rattle.std.specs.Bool.{⊤}
use Rattle.space3.specs.declared.vectors.V3.{V3}
use Rattle.space3.specs.Vectors.{vector, dot_product}
use Rattle.plane_cut.specs.declared.rows.Flat.{Flat}
use Rattle.plane_cut.specs.declared.cones.Cone.{Cone}
use Rattle.plane_cut.specs.declared.cones.Cone.TheVariants.{Empty, Ray, Wedge}
use Rattle.plane_cut.specs.Planes.{IsPlane}
use Rattle.plane_cut.specs.Calls.Elimination.{turn_of}

-- the vector, with 0 as its third component
abbrev pub as_row : Flat → V3
as_row f = vector f.x.raw f.y.raw (pos 0)

-- the outermost rows
abbrev pub corners : Cone → List V3
corners Empty = []
corners (Ray a) = as_row a ∷ []
corners (Wedge a b) = as_row a ∷ as_row b ∷ []

-- a ray is not the zero vector, and a wedge turns to the left, by less than half a turn
abbrev pub IsCone : Cone → Type 0
IsCone Empty = ⊤
IsCone (Ray a) = pos 0 <ℤ dot_product (as_row a) (as_row a)
IsCone (Wedge a b) = pos 0 <ℤ turn_of (as_row a) (as_row b)

-- the planes of the cone are those of the start that have P
pub record Narrows (start : Cone) (P : V3 → Type 0) (cone : Cone) : Type 0 where
  pub valid : IsCone cone
  pub same : (n : V3) → IsPlane n (corners cone) ↔ (IsPlane n (corners start) × P n)

-- a cone with exactly the planes of the start that have P, or None where there are none
abbrev pub NarrowsOrNone : Cone → (V3 → Type 0) → Option Cone → Type 0
NarrowsOrNone start P result = MatchOption result (¬ ((n : V3) × IsPlane n (corners start) × P n)) (Narrows start P)
