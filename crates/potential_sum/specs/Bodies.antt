-- The tetrahedra of bodies, as elastic ones.
use Rattle.std.specs.Prelude.{ℕ, ℤ, List, [], ◌∷◌, map, slice_index}
use Rattle.space3.specs.declared.vectors.V3.{V3}
use Rattle.space3.specs.declared.lists.Tet.{Tet}
use Rattle.space3.specs.Mesh.{place_of}
use Rattle.surface_mesh.specs.declared.setup.Setup.{Setup}
use Rattle.surface_mesh.specs.Materials.{material_of}
use Rattle.neo_hooke.specs.Rest.{RestShape, rest_shape}

-- where the four nodes of a tetrahedron stand
abbrev pub corners_at : List V3 → List ℕ → List V3
corners_at places nodes =
    let corner = λ (k : ℕ). place_of places (slice_index nodes k) in
    corner 0 ∷ corner 1 ∷ corner 2 ∷ corner 3 ∷ []

-- an elastic tetrahedron: its nodes, what is kept of it at rest, and the moduli of its material
pub record ElasticTet : Type 0 where
  pub nodes : List ℕ
  pub rest : RestShape
  pub mu : ℤ
  pub lambda : ℤ

abbrev pub elastic_of : Setup → Tet → ElasticTet
elastic_of setup tet = record {
  nodes = tet.nodes;
  rest = rest_shape (corners_at setup.mesh.places tet.nodes);
  mu = (material_of setup.numbers tet).mu;
  lambda = (material_of setup.numbers tet).lambda;
}

-- the tetrahedra of a setup, in the mesh's order
abbrev pub elastic_tets : Setup → List ElasticTet
elastic_tets setup = map (elastic_of setup) setup.mesh.tets
