-- How many pairs are close.
use Rattle.std.proofs.Common.{ℕ, ◌+◌, ◌*◌, ◌≤◌, List, [], ◌∷◌, ◌++◌, length, subst, arith}
use Rattle.std.specs.List.{flat_map}
use Rattle.std.proofs.lemmas.List.{length-append, length-map}
use Rattle.space3.specs.declared.vectors.V3.{V3}
use Rattle.boundary.specs.declared.pairs.Pair.{Pair}
use Rattle.boundary.specs.declared.pairs.PairKind.TheVariants.{VT, EE}
use Rattle.boundary.specs.Pairs.{pairs_of_kind}
use Rattle.boundary.specs.Surface.{SurfaceLists}
use Rattle.boundary.proofs.EdgePairs.{few_edge_pairs}
use Rattle.boundary.proofs.PairNodes.{few_of_kind, few_pass}
use Rattle.broad_grid.specs.NearPairs.{are_boxes_within, close_pairs_of}
use Rattle.broad_grid.proofs.RowsOfPairs.{close_as_near}

-- a vertex with each triangle
few_points : (s : SurfaceLists) → length (pairs_of_kind s VT) ≤ length s.vertices * length s.triangles
few_points s = subst (λ n. length (pairs_of_kind s VT) ≤ n * length s.triangles) (length-map s.vertices (λ (vertex : ℕ). vertex ∷ [])) (few_of_kind s VT)

-- no more than vertices times triangles, and half of edges times edges
pub few_close_pairs : (reach : ℕ) (s : SurfaceLists) (x : List V3) →
    2 * length (close_pairs_of reach s x) ≤ 2 * (length s.vertices * length s.triangles) + length s.edges * length s.edges
few_close_pairs reach s x =
    let vertices = pairs_of_kind s VT in
    let edges = pairs_of_kind s EE in
    subst (λ (pairs : List Pair). 2 * length pairs ≤ 2 * (length s.vertices * length s.triangles) + length s.edges * length s.edges) (close_as_near reach s x)
    (omega (arith, few_pass (are_boxes_within reach s x x) (flat_map (pairs_of_kind s) (VT ∷ EE ∷ [])), length-append vertices (edges ++ []), length-append edges [], few_points s, few_edge_pairs s))
