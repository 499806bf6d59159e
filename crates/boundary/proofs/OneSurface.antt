-- A mesh has one surface.
use Rattle.std.proofs.Common.{◌≡◌, List, subst, sym}
use Rattle.std.specs.List.{Contains, flat_map}
use Rattle.std.specs.declared.cmp.Ordering.{Ordering}
use Rattle.std.specs.Cmp.{IsTotalOrder}
use Rattle.std.proofs.lemmas.Cmp.{nat_cmp_total}
use Rattle.std.proofs.lemmas.List.Elements.{All-contains}
use Rattle.space3.specs.declared.mesh.Mesh.{Mesh}
use Rattle.list_laws.proofs.StrictlySorted.{one_sorted_list}
use Rattle.boundary.specs.SortedLists.{IsSortedListOf}
use Rattle.boundary.specs.Surface.{AreEdges, AreVertices, IsBoundaryFace, IsSurface, SurfaceLists, sides_of}
use Rattle.boundary.proofs.Order.{is_total}

-- there is one sorted list of all that have a property
pub one_list : {A : Type 0} {order : A → A → Ordering} (P : A → Type 0) (xs ys : List A) → IsTotalOrder order → IsSortedListOf order P xs → IsSortedListOf order P ys → xs ≡ ys
one_list P xs ys total a b =
    one_sorted_list total xs ys a.sorted b.sorted
    (λ z i. b.all z (All-contains P xs z a.each i))
    (λ z i. a.all z (All-contains P ys z b.each i))

pub one_surface : (mesh : Mesh) (s t : SurfaceLists) → IsSurface mesh s → IsSurface mesh t → s ≡ t
one_surface mesh s t a b =
    let triangles = one_list (IsBoundaryFace mesh) s.triangles t.triangles is_total a.triangles b.triangles in
    let edges = one_list (Contains (flat_map sides_of s.triangles)) s.edges t.edges is_total a.edges (subst (λ l. AreEdges l t.edges) (sym triangles) b.edges) in
    let vertices = one_list (Contains (flat_map (λ triangle. triangle) s.triangles)) s.vertices t.vertices nat_cmp_total a.vertices (subst (λ l. AreVertices l t.vertices) (sym triangles) b.vertices) in
    λ i. record { vertices = vertices i; edges = edges i; triangles = triangles i }
