-- What tetrahedra give their nodes: shares, which add up.
use Rattle.std.specs.Prelude.{ℕ, ℤ, pos, ◌+ℤ◌, ◌*ℤ◌, Bool, false, ◌||◌, List, map, slice_get, slice_set, slice_index_or, None, Some, is_some, not, option_map, if◌then◌else◌}
use Rattle.std.specs.List.{fold, list_any}
use Rattle.std.specs.Option.{option_or, unwrap_or}
use Rattle.space3.specs.declared.vectors.V3.{V3}
use Rattle.space3.specs.declared.lists.Tet.{Tet}
use Rattle.space3.specs.declared.mesh.Mesh.{Mesh}
use Rattle.space3.specs.Vectors.{origin}
use Rattle.surface_mesh.specs.declared.materials.Material.{Material}
use Rattle.surface_mesh.specs.declared.materials.Numbers.{Numbers}
use Rattle.surface_mesh.specs.declared.shares.Share.{Share}
use Rattle.surface_mesh.specs.Materials.{material_of}
use Rattle.surface_mesh.specs.Setup.{tets_at, weight_of}
use Rattle.list_laws.specs.Sums.{total}

-- no tetrahedron gives this
abbrev pub nothing : Share
nothing = record { mass = pos 0; fixed = false; velocity = None }

-- two shares together: the masses add up, one that is fixed fixes both, and the first velocity counts
abbrev pub share_sum : Share → Share → Share
share_sum a b =
    record { mass = a.mass +ℤ b.mass; fixed = a.fixed || b.fixed; velocity = option_or a.velocity b.velocity }

-- what a tetrahedron of this material and rest determinant gives each of its nodes
abbrev pub share_of : Material → ℤ → Share
share_of material rest =
    record { mass = material.density *ℤ rest; fixed = material.fixed; velocity = Some material.velocity }

-- a node stays where it is where one of its tetrahedra is fixed, or where it has none
abbrev pub stays : Share → Bool
stays share = not (is_some share.velocity) || share.fixed

-- the velocity at the start
abbrev pub start_velocity : Share → V3
start_velocity share = if stays share then origin else unwrap_or share.velocity origin

-- the shares of all nodes, after each of these nodes was given a share more
abbrev pub with_share : Share → List Share → List ℕ → List Share
with_share share shares nodes =
    fold (λ now node. slice_set now node (share_sum (slice_index_or now node nothing) share)) shares nodes

-- what these tetrahedra give a node together
abbrev pub share_of_tets : Mesh → Numbers → List Tet → Share
share_of_tets mesh numbers tets = record {
  mass = total (map (weight_of mesh numbers) tets);
  fixed = list_any (λ tet. (material_of numbers tet).fixed) tets;
  velocity = option_map (λ tet. (material_of numbers tet).velocity) (slice_get tets 0);
}

-- what a node has of the mesh
abbrev pub share_at : Mesh → Numbers → ℕ → Share
share_at mesh numbers node = share_of_tets mesh numbers (tets_at mesh node)
