-- What setups and poses give each tetrahedron.
use Rattle.std.proofs.Common.{◌≡◌, ◌∙◌, ℕ, ◌<◌, ◌≤◌, ◌≤ℤ◌, List, length, map, get_or, sym, ap, subst, arith}
use Rattle.std.proofs.lemmas.List.{length-map}
use Rattle.std.specs.Prelude.{All, Bool, IsTrue, filter}
use Rattle.std.specs.List.Sorted.{IsPermutation}
use Rattle.std.proofs.lemmas.List.Elements.{All-filter, All-map, All-same}
use Rattle.std.proofs.lemmas.List.Sorted.{All-permutation, length_permutation}
use Rattle.list_laws.proofs.Elements.{All-map_back}
use Rattle.space3.specs.declared.vectors.V3.{V3}
use Rattle.boundary.proofs.PairNodes.{few_pass}
use Rattle.vec_q.specs.Widths.{AreWithin}
use Rattle.surface_mesh.specs.declared.setup.Setup.{Setup}
use Rattle.surface_mesh.specs.declared.sturdy.TheConstants.{LEAST_REST, LONGEST_REST}
use Rattle.surface_mesh.specs.Edges.{has_edges_within}
use Rattle.surface_mesh.specs.Setup.{IsSetup, rest_of}
use Rattle.surface_mesh.specs.Sturdy.{IsSturdy}
use Rattle.surface_mesh.proofs.ShortEdges.{first_edge_is_within, second_edge_is_within, third_edge_is_within}
use Rattle.volume_cert.specs.declared.edges.TheConstants.{LONGEST_EDGE}
use Rattle.neo_hooke.specs.Rest.{CanRest, edge_matrix}
use Rattle.potential_sum.specs.declared.bodies.Body.{Body}
use Rattle.potential_sum.specs.Bodies.{ElasticTet, corners_at, elastic_of, elastic_tets}
use Rattle.potential_sum.specs.Calls.Kept.{MayStand, elastic_in}
use Rattle.potential_sum.specs.Upright.{IsUpright}

-- edges of six that are short make short columns
short_columns : (most : ℕ) (places : List V3) (nodes : List ℕ) → IsTrue (has_edges_within most places nodes) → AreWithin most (edge_matrix (corners_at places nodes))
short_columns most places nodes h = record {
  first = first_edge_is_within most places nodes h;
  second = second_edge_is_within most places nodes h;
  third = third_edge_is_within most places nodes h;
}

-- each tetrahedron may rest as it does
pub may_rest : (s : Setup) → IsSetup s → IsSturdy s → All (λ tet. CanRest (corners_at s.mesh.places tet.nodes)) s.mesh.tets
may_rest s built sturdy = λ k d l. record {
  edges = short_columns LONGEST_REST s.mesh.places (get_or s.mesh.tets k d).nodes (sturdy.edges k d l);
  volume = rests k d l;
}
  where
    rests : All (λ tet. LEAST_REST ≤ℤ rest_of s.mesh tet) s.mesh.tets
    rests =
        All-map_back (λ rest. LEAST_REST ≤ℤ rest) (rest_of s.mesh) s.mesh.tets
        (All-same (λ rest. LEAST_REST ≤ℤ rest) (map (rest_of s.mesh) s.mesh.tets) s.rest (sym (ap (λ (t : Setup). t.rest) built.built)) sturdy.rest)

-- each tetrahedron may stand at a pose
pub may_stand : (s : Setup) (x : List V3) → IsSetup s → IsUpright s x → All (MayStand x) (elastic_tets s)
may_stand s x built pose = All-map (MayStand x) (elastic_of s) s.mesh.tets (λ k d l.
    let sound = built.mesh_is_sound.tets k d l in
    record {
      four = sound.four;
      there = subst (λ (n : ℕ). All (λ node. node < n) (get_or s.mesh.tets k d).nodes) (sym pose.each) sound.there;
      shape = record {
        edges = short_columns LONGEST_EDGE x (get_or s.mesh.tets k d).nodes (pose.edges k d l);
        volume = pose.upright k d l;
      };
    })

-- so may what is kept of those that pass a test
pub bodies_may_stand : (s : Setup) (x : List V3) (test : ElasticTet → Bool) (bodies : List Body) → IsSetup s → IsUpright s x → IsPermutation (filter test (elastic_tets s)) (map elastic_in bodies) → All (λ body. MayStand x (elastic_in body)) bodies
bodies_may_stand s x test bodies built pose kept =
    All-map_back (MayStand x) elastic_in bodies
    (All-permutation (MayStand x) (filter test (elastic_tets s)) (map elastic_in bodies) kept (All-filter test (MayStand x) (elastic_tets s) (may_stand s x built pose)))

-- no more bodies than a mesh has tetrahedra
pub few_bodies : (s : Setup) (test : ElasticTet → Bool) (bodies : List Body) → IsSetup s → IsPermutation (filter test (elastic_tets s)) (map elastic_in bodies) → length bodies ≤ 65536
few_bodies s test bodies built kept =
    let e : length bodies ≡ length (filter test (elastic_tets s)) = sym (length-map bodies elastic_in) ∙ length_permutation (filter test (elastic_tets s)) (map elastic_in bodies) kept in
    omega (arith, e, few_pass test (elastic_tets s), length-map s.mesh.tets (elastic_of s), built.mesh_is_sound.few_tets)
