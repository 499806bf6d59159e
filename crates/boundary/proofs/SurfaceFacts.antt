-- What is known of the surface of a sound mesh.
use Rattle.std.proofs.Common.{◌≡◌, ℕ, ◌*◌, arith, ◌<◌, ◌≤◌, List, map, length, get_or, subst}
use Rattle.std.specs.List.{All, filter, flat_map}
use Rattle.std.proofs.lemmas.List.Elements.{All-contains, All-filter, All-weaker}
use Rattle.space3.specs.declared.mesh.Mesh.{Mesh}
use Rattle.space3.specs.Mesh.{HasNodes, IsSound}
use Rattle.list_laws.proofs.Membership.{All-flat_map}
use Rattle.boundary.specs.declared.faces.Face.{Face}
use Rattle.boundary.specs.declared.limits.TheConstants.{TRIANGLE_LIMIT}
use Rattle.boundary.specs.Calls.Groups.{first_corners, has_one}
use Rattle.boundary.specs.Faces.{faces_of, has_corners}
use Rattle.boundary.specs.Surface.{AreEdges, AreSurfaceLists, AreVertices, IsAscendingTriple, SurfaceLists}
use Rattle.boundary.proofs.Ascending.{AreCorners, faces_corners}
use Rattle.boundary.proofs.OwnersInGroups.{AreOf, singles, singles_keep}

triangles_corners : (mesh : Mesh) (groups : List (List Face)) (triangles : List (List ℕ)) → IsSound mesh → AreOf mesh groups → triangles ≡ map first_corners (filter has_one groups) → All (AreCorners (length mesh.numbers)) triangles
triangles_corners mesh groups triangles sound g e =
    let n = length mesh.numbers in
    singles_keep (AreCorners n) mesh groups triangles g e
    (λ corners. All-filter (has_corners corners) (λ f. AreCorners n f.corners) (faces_of mesh.tets) (faces_corners n mesh.tets sound.tets))

pub surface_lists : (mesh : Mesh) (groups : List (List Face)) (surface : SurfaceLists) → IsSound mesh → AreOf mesh groups → surface.triangles ≡ map first_corners (filter has_one groups) → length surface.triangles ≤ TRIANGLE_LIMIT → length surface.edges ≤ 3 * length surface.triangles → length surface.vertices ≤ 3 * length surface.triangles → AreEdges surface.triangles surface.edges → AreVertices surface.triangles surface.vertices → AreSurfaceLists surface
surface_lists mesh groups surface sound g e few few_edges few_vertices edges vertices =
    let listed = singles mesh groups surface.triangles g e in
    record {
      few = few;
      few_edges = omega (arith, few, few_edges);
      few_vertices = omega (arith, few, few_vertices);
      each = All-weaker (AreCorners (length mesh.numbers)) IsAscendingTriple (λ t h. h.triple) surface.triangles (triangles_corners mesh groups surface.triangles sound g e);
      sorted = listed.sorted;
      edges = edges;
      vertices = vertices;
    }

-- each vertex has a place
pub surface_placed : (mesh : Mesh) (groups : List (List Face)) (triangles : List (List ℕ)) (vertices : List ℕ) → IsSound mesh → AreOf mesh groups → triangles ≡ map first_corners (filter has_one groups) → AreVertices triangles vertices → HasNodes mesh.places vertices
surface_placed mesh groups triangles vertices sound g e v =
    subst (λ n. All (λ node. node < n) vertices) sound.placed
    (λ k d l. All-contains (λ node. node < length mesh.numbers) (flat_map (λ triangle. triangle) triangles) (get_or vertices k d)
    (All-flat_map (λ node. node < length mesh.numbers) (λ triangle. triangle) triangles
    (All-weaker (AreCorners (length mesh.numbers)) (λ triangle. All (λ node. node < length mesh.numbers) triangle) (λ t h. h.below) triangles (triangles_corners mesh groups triangles sound g e)))
    (v.each k d l))
