-- What a simulation is at the start.
use Rattle.std.proofs.Common.{◌≡◌, ◌∙◌, ℕ, ◌≤◌, ◌&&◌, ℤ, pos, ◌-ℤ◌, ◌≤ℤ◌, ◌<ℤ◌, unsigned_abs, List, [], ◌∷◌, true, length, refl, ap, sym, subst, arith, lit≤}
use Rattle.std.specs.Prelude.{All, IsTrue, nat_le}
use Rattle.std.specs.List.{list_all, zip}
use Rattle.std.specs.Cmp.Derive.{both_true}
use Rattle.std.proofs.lemmas.Bool.{and_parts, leb-true, le-leb}
use Rattle.std.proofs.lemmas.Int.{ints}
use Rattle.std.proofs.lemmas.List.{length-map}
use Rattle.std.proofs.lemmas.Slice.Zip.{length-zip}
use Rattle.std.proofs.lemmas.List.Elements.{All-map, All-weaker}
use Rattle.list_laws.proofs.Elements.{All-map_back}
use Rattle.whole_laws.proofs.Order.{size_diff}
use Rattle.space3.specs.declared.places.TheConstants.{BOX_LIMIT}
use Rattle.space3.specs.declared.vectors.V3.{V3}
use Rattle.space3.specs.declared.lists.Tet.{Tet}
use Rattle.space3.specs.Vectors.{AtMost, Within, difference}
use Rattle.space3.specs.Mesh.{rest_determinant}
use Rattle.surface_mesh.specs.declared.ranges.TheConstants.{FARTHEST_BEFORE, FASTEST}
use Rattle.surface_mesh.specs.declared.setup.Setup.{Setup}
use Rattle.surface_mesh.specs.declared.sturdy.TheConstants.{LEAST_REST, LONGEST_REST}
use Rattle.surface_mesh.specs.Edges.{edges_of, has_edges_within, is_within}
use Rattle.surface_mesh.specs.Setup.{IsSetup, rest_of}
use Rattle.surface_mesh.specs.Safety.{IsSafeAt}
use Rattle.surface_mesh.specs.Sturdy.{IsFit}
use Rattle.surface_mesh.proofs.SetupFacts.{velocity_length}
use Rattle.volume_cert.specs.declared.edges.TheConstants.{LONGEST_EDGE}
use Rattle.line_search.specs.Poses.{IsPose}
use Rattle.potential_sum.specs.Upright.{HasShortEdges}
use Rattle.frame_driver.specs.Paths.{first_before, less_velocities}

-- ---- vectors
-- a place is near
pub place_is_near : (a : V3) → Within BOX_LIMIT a → Within FARTHEST_BEFORE a
place_is_near a h = record { x = each a.x h.x; y = each a.y h.y; z = each a.z h.z }
  where
    each : (a : ℤ) → AtMost BOX_LIMIT a → AtMost FARTHEST_BEFORE a
    each a h = record { bound = omega (arith, h.bound) }

-- and so is a place less a velocity
pub place_before_is_near : (a b : V3) → Within BOX_LIMIT a → Within FASTEST b → Within FARTHEST_BEFORE (difference a b)
place_before_is_near a b h k = record { x = each a.x b.x h.x k.x; y = each a.y b.y h.y k.y; z = each a.z b.z h.z k.z }
  where
    each : (a b : ℤ) → AtMost BOX_LIMIT a → AtMost FASTEST b → AtMost FARTHEST_BEFORE (a -ℤ b)
    each a b h k = record { bound = omega (arith, size_diff a b, h.bound, k.bound) }

-- ---- the pose at the start
-- what is within is within more
within_more : (m n : ℕ) (v : V3) → m ≤ n → IsTrue (is_within m v) → IsTrue (is_within n v)
within_more m n v l h =
    let xyz = and_parts (nat_le (unsigned_abs v.x) m && nat_le (unsigned_abs v.y) m) (nat_le (unsigned_abs v.z) m) h in
    let xy = and_parts (nat_le (unsigned_abs v.x) m) (nat_le (unsigned_abs v.y) m) xyz.0 in
    both_true (both_true (each (unsigned_abs v.x) xy.0) (each (unsigned_abs v.y) xy.1)) (each (unsigned_abs v.z) xyz.1)
  where
    each : (a : ℕ) → nat_le a m ≡ true → nat_le a n ≡ true
    each a e = le-leb a n (omega (arith, leb-true a m e))

edges_more : (m n : ℕ) (places : List V3) (nodes : List ℕ) → m ≤ n → IsTrue (has_edges_within m places nodes) → IsTrue (has_edges_within n places nodes)
edges_more m n places nodes l h = each (edges_of places nodes) h
  where
    each : (vs : List V3) → list_all (is_within m) vs ≡ true → list_all (is_within n) vs ≡ true
    each [] e = refl
    each (v ∷ vs) e =
        let parts = and_parts (is_within m v) (list_all (is_within m) vs) e in
        both_true (within_more m n v l parts.0) (each vs parts.1)

positive : (rest : ℤ) → LEAST_REST ≤ℤ rest → pos 0 <ℤ rest
positive rest h = omega (arith, ints)

-- bodies that are fit to start are safe at the mesh's places
pub start_is_safe : (s : Setup) → IsSetup s → IsFit s → IsSafeAt s s.mesh.places
start_is_safe s built fit =
    let Upright : Tet → Type 0 = λ tet. pos 0 <ℤ rest_determinant s.mesh.places tet.nodes in
    let thick : All (λ tet. LEAST_REST ≤ℤ rest_of s.mesh tet) s.mesh.tets =
    All-map_back (λ rest. LEAST_REST ≤ℤ rest) (rest_of s.mesh) s.mesh.tets (subst (All (λ rest. LEAST_REST ≤ℤ rest)) (ap (λ (t : Setup). t.rest) built.built) fit.sturdy.rest) in
    record {
      apart = fit.apart;
      upright = All-map (λ nodes. pos 0 <ℤ rest_determinant s.mesh.places nodes) (λ (tet : Tet). tet.nodes) s.mesh.tets
          (All-weaker (λ tet. LEAST_REST ≤ℤ rest_of s.mesh tet) Upright (λ tet h. positive (rest_of s.mesh tet) h) s.mesh.tets thick);
    }

-- and may stand there
pub first_pose : (s : Setup) → IsSetup s → IsFit s → IsPose s s.mesh.places
first_pose s built fit =
    record {
      each = sym built.mesh_is_sound.placed;
      safe = start_is_safe s built fit;
      edges = All-weaker (λ tet. IsTrue (has_edges_within LONGEST_REST s.mesh.places tet.nodes)) (λ tet. HasShortEdges s.mesh.places tet.nodes)
          (λ tet h. edges_more LONGEST_REST LONGEST_EDGE s.mesh.places tet.nodes (lit≤ tt) h) s.mesh.tets fit.sturdy.edges;
    }

-- ---- the places before
-- one per node
pub length-first_before : (s : Setup) → IsSetup s → length (first_before s) ≡ length s.mesh.numbers
length-first_before s built =
    let placed : length s.mesh.numbers ≡ length s.mesh.places = built.mesh_is_sound.placed in
    let moving : length s.velocity ≡ length s.mesh.numbers = velocity_length s built in
    length-map (zip s.mesh.places s.velocity) (λ node. difference node.0 node.1) ∙ omega (arith, length-zip s.mesh.places s.velocity, placed, moving)

-- the list that is made of these velocities is that of the path
pub made_is_before : (s : Setup) (velocities list : List V3) → velocities ≡ s.velocity → list ≡ less_velocities s.mesh.places velocities → list ≡ first_before s
made_is_before s velocities list e made = made ∙ ap (less_velocities s.mesh.places) e
