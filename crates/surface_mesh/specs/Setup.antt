-- What a mesh and its materials give each tetrahedron and each node.
use Rattle.std.specs.Prelude.{◌≡◌, ◌==◌, ◌||◌, ℕ, ℤ, ◌*ℤ◌, Bool, List, map, length, filter, slice_get, if◌then◌else◌}
use Rattle.std.specs.List.{list_any, range_with_len}
use Rattle.std.specs.Option.{option_map_or}
use Rattle.space3.specs.declared.vectors.V3.{V3}
use Rattle.space3.specs.declared.lists.Tet.{Tet}
use Rattle.space3.specs.declared.mesh.Mesh.{Mesh}
use Rattle.space3.specs.Vectors.{origin}
use Rattle.space3.specs.Mesh.{HasNodes, IsSound, rest_determinant}
use Rattle.boundary.specs.Surface.{AreSurfaceLists, IsSurface, SurfaceLists}
use Rattle.surface_mesh.specs.declared.materials.Numbers.{Numbers}
use Rattle.surface_mesh.specs.declared.setup.Setup.{Setup}
use Rattle.surface_mesh.specs.Materials.{AreNumbers, material_of}
use Rattle.list_laws.specs.Sums.{total}

-- the tetrahedron has this node
abbrev pub has_node : ℕ → Tet → Bool
has_node node tet = list_any (λ n. n == node) tet.nodes

-- the tetrahedra of a node, in the mesh's order
abbrev pub tets_at : Mesh → ℕ → List Tet
tets_at mesh node = filter (has_node node) mesh.tets

-- the rest determinant of a tetrahedron of the mesh
abbrev pub rest_of : Mesh → Tet → ℤ
rest_of mesh tet = rest_determinant mesh.places tet.nodes

-- what a tetrahedron adds to the mass of each of its nodes: its density times its rest determinant
abbrev pub weight_of : Mesh → Numbers → Tet → ℤ
weight_of mesh numbers tet = (material_of numbers tet).density *ℤ rest_of mesh tet

-- the mass of a node, in 24ths of density times cubed grid unit
abbrev pub mass_of : Mesh → Numbers → ℕ → ℤ
mass_of mesh numbers node = total (map (weight_of mesh numbers) (tets_at mesh node))

-- a node stays where it is where some tetrahedron of it has a fixed material, or where it has no tetrahedron
abbrev pub is_fixed : Mesh → Numbers → ℕ → Bool
is_fixed mesh numbers node =
    length (tets_at mesh node) == 0 || list_any (λ tet. (material_of numbers tet).fixed) (tets_at mesh node)

-- the velocity of a node at the start: that of its first tetrahedron's material, and 0 where it is fixed
abbrev pub velocity_of : Mesh → Numbers → ℕ → V3
velocity_of mesh numbers node =
    if is_fixed mesh numbers node then origin
    else option_map_or (λ tet. (material_of numbers tet).velocity) (slice_get (tets_at mesh node) 0) origin

-- the positions of the mesh's nodes
abbrev pub node_positions : Mesh → List ℕ
node_positions mesh = range_with_len 0 (length mesh.numbers)

-- what a mesh, its surface and a scene's numbers make
abbrev pub setup_of : Mesh → SurfaceLists → Numbers → Setup
setup_of mesh surface numbers = record {
  mesh = mesh;
  surface = surface;
  numbers = numbers;
  rest = map (rest_of mesh) mesh.tets;
  mass = map (mass_of mesh numbers) (node_positions mesh);
  fixed = map (is_fixed mesh numbers) (node_positions mesh);
  velocity = map (velocity_of mesh numbers) (node_positions mesh);
}

-- the surface of a mesh, with what is known of each surface
pub record HasSurface (mesh : Mesh) (surface : SurfaceLists) : Type 0 where
  pub is_surface : IsSurface mesh surface
  pub lists : AreSurfaceLists surface
  pub placed : HasNodes mesh.places surface.vertices

-- a setup as it is built, of a sound mesh, its surface and numbers in range
pub record IsSetup (setup : Setup) : Type 0 where
  pub mesh_is_sound : IsSound setup.mesh
  pub has_surface : HasSurface setup.mesh setup.surface
  pub in_range : AreNumbers setup.numbers
  pub built : setup ≡ setup_of setup.mesh setup.surface setup.numbers
