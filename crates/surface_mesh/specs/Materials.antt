-- Materials by physical tag, and the ranges of a scene's numbers.
use Rattle.std.specs.Prelude.{◌≤◌, ℤ, pos, length, All, find, slice_index_or}
use Rattle.std.specs.Option.{option_map_or}
use Rattle.std.specs.Ordering.{int_eq}
use Rattle.whole_laws.specs.Ranges.{IsFrom}
use Rattle.space3.specs.declared.lists.Tet.{Tet}
use Rattle.space3.specs.Vectors.{Within}
use Rattle.surface_mesh.specs.declared.materials.Material.{Material}
use Rattle.surface_mesh.specs.declared.materials.Numbers.{Numbers}
use Rattle.surface_mesh.specs.declared.ranges.TheConstants.{FASTEST, LEAST_DHAT, MOST_DENSITY, MOST_DHAT, MOST_FRICTION, MOST_GRAVITY, MOST_KAPPA, MOST_MODULUS, MOST_PARTS, MOST_SLIP}

-- the first tag of a tetrahedron, or 0 where it has none
abbrev pub physical_tag : Tet → ℤ
physical_tag tet = slice_index_or tet.tags 0 (pos 0)

-- the material of a tetrahedron: that of the part with its physical tag, else the base material
abbrev pub material_of : Numbers → Tet → Material
material_of numbers tet =
    option_map_or (λ part. part.1) (find (λ part. int_eq part.0 (physical_tag tet)) numbers.parts) numbers.base

-- what a scene may give a material
pub record IsMaterial (material : Material) : Type 0 where
  pub density : IsFrom (pos 1) MOST_DENSITY material.density
  pub mu : IsFrom (pos 0) MOST_MODULUS material.mu
  pub lambda : IsFrom (pos 0) MOST_MODULUS material.lambda
  pub velocity : Within FASTEST material.velocity

-- what a scene may give
pub record AreNumbers (numbers : Numbers) : Type 0 where
  pub base : IsMaterial numbers.base
  pub few_parts : length numbers.parts ≤ MOST_PARTS
  pub parts : All (λ part. IsMaterial part.1) numbers.parts
  pub kappa : IsFrom (pos 1) MOST_KAPPA numbers.kappa
  pub dhat : IsFrom LEAST_DHAT MOST_DHAT numbers.dhat
  pub friction : IsFrom (pos 0) MOST_FRICTION numbers.friction
  pub slip : IsFrom (pos 1) MOST_SLIP numbers.slip
  pub gravity : Within MOST_GRAVITY numbers.gravity
