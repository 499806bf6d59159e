-- What a mesh must not have at the start.
use Rattle.std.specs.Prelude.{◌≡◌, ℕ, pos, not, int_lt, int_le, position, All, Option, Some, None, option_map}
use Rattle.std.specs.Option.{option_or}
use Rattle.list_laws.specs.Firsts.{IsFirstOf}
use Rattle.boundary.specs.declared.pairs.Pair.{Pair}
use Rattle.boundary.specs.Pairs.{IsPair, pairs_of, part_pair}
use Rattle.boundary.specs.Surface.{SurfaceLists}
use Rattle.surface_mesh.specs.declared.setup.Setup.{Setup}
use Rattle.surface_mesh.specs.Edges.{has_edges_within}
use Rattle.surface_mesh.specs.Safety.{HaveMet}
use Rattle.surface_mesh.specs.declared.sturdy.TheConstants.{LEAST_REST, LONGEST_REST, MOST_MASS}
use Rattle.mesh_check.specs.declared.defects.Defect.{Defect}
use Rattle.mesh_check.specs.declared.defects.Defect.TheVariants as defects

-- the first tetrahedron whose volume isn't positive
abbrev pub first_not_positive : Setup → Option ℕ
first_not_positive setup = position (λ rest. int_le rest (pos 0)) setup.rest

-- the first tetrahedron that is too thin
abbrev pub first_thin : Setup → Option ℕ
first_thin setup = position (λ rest. int_lt rest LEAST_REST) setup.rest

-- the first tetrahedron with an edge that is too long
abbrev pub first_long : Setup → Option ℕ
first_long setup =
    position (λ tet. not (has_edges_within LONGEST_REST setup.mesh.places tet.nodes)) setup.mesh.tets

-- the first node that is too heavy
abbrev pub first_heavy : Setup → Option ℕ
first_heavy setup = position (λ mass. int_lt MOST_MASS mass) setup.mass

-- the first defect of a tetrahedron or a node: the first tetrahedron that isn't positive, else the first thin one, else
-- the first long one, else the first heavy node
abbrev pub first_flaw : Setup → Option Defect
first_flaw setup =
    option_or (option_map (λ tet. defects.NotPositive tet) (first_not_positive setup))
    (option_or (option_map (λ tet. defects.Thin tet) (first_thin setup))
    (option_or (option_map (λ tet. defects.Long tet) (first_long setup))
    (option_map (λ node. defects.TooHeavy node) (first_heavy setup))))

-- the parts of a pair meet where the mesh stands
pub record PartsMeet (setup : Setup) (pair : Pair) : Type 0 where
  pub common : HaveMet setup.mesh.places (part_pair setup.surface pair)

-- The first defect: that of a tetrahedron or a node; else the first pair of the pair order whose parts meet; else there
-- is none.
pub data IsFirstDefect (setup : Setup) (found : Option Defect) : Type 0 where
  Flawed : (defect : Defect) → first_flaw setup ≡ Some defect → found ≡ Some defect → IsFirstDefect setup found
  Meeting : (pair : Pair) → first_flaw setup ≡ None
      → IsFirstOf (PartsMeet setup) (pairs_of setup.surface) pair
      → found ≡ Some (defects.Meets pair) → IsFirstDefect setup found
  Sound : first_flaw setup ≡ None → All (λ pair. ¬ PartsMeet setup pair) (pairs_of setup.surface)
      → found ≡ None → IsFirstDefect setup found

-- the pair of a defect, if it is one of a pair, is of the surface's pair order
abbrev pub HasPair : SurfaceLists → Defect → Type 0
HasPair s (defects.NotPositive tet) = Unit {0}
HasPair s (defects.Thin tet) = Unit {0}
HasPair s (defects.Long tet) = Unit {0}
HasPair s (defects.TooHeavy node) = Unit {0}
HasPair s (defects.Meets pair) = IsPair s pair
