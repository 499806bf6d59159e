-- The pulls of contributions: how many, how great, and at which nodes.
use Rattle.std.proofs.Common.{ℕ, ◌^◌, ◌<◌, ◌≤◌, ℤ, pos, ◌+ℤ◌, ◌*ℤ◌, neg_ℤ, List, [], ◌∷◌, ◌++◌, length, length-append, map, get_or, arith, lit≤, ◌⊎◌, inl, inr}
use Rattle.std.specs.Prelude.{All, zip}
use Rattle.std.specs.List.{range_with_len}
use Rattle.std.proofs.lemmas.List.{length-map}
use Rattle.std.proofs.lemmas.List.Elements.{All-nil, All-cons, All-head, All-tail, All-map}
use Rattle.std.proofs.lemmas.Slice.Zip.{length-zip}
use Rattle.list_laws.proofs.CountedWrites.{All-counted}
use Rattle.num_q.specs.Rounding.{cut_of, floor_of}
use Rattle.space3.specs.declared.vectors.V3.{V3}
use Rattle.space3.specs.Vectors.{Within}
use Rattle.space3.specs.Mesh.{place_of}
use Rattle.vec_q.specs.Matrices.{M3, cofactors, determinant_of}
use Rattle.inertia_term.specs.Inertia.{inertia_gradient, offset_of}
use Rattle.neo_hooke.specs.Gradient.{balance_of, elastic_gradient, elastic_pulls, pressure, pulls_of as node_pulls}
use Rattle.neo_hooke.specs.Rest.{RestShape, edge_matrix}
use Rattle.neo_hooke.specs.Strain.{log_volume, strain_gradient}
use Rattle.safe_motion.specs.Safety.{PartPair}
use Rattle.surface_mesh.specs.declared.materials.Numbers.{Numbers}
use Rattle.nearest.specs.SignedWeights.{signed_sum, signed_weights}
use Rattle.near_pair.specs.Answers.{near_between}
use Rattle.barrier_term.specs.Barrier.{barrier_slope}
use Rattle.barrier_term.specs.Gradients.{pull_at as barrier_pull_at}
use Rattle.friction_lag.specs.Contacts.{LaggedContact}
use Rattle.friction_lag.proofs.Sizes.{pulls_are_small}
use Rattle.potential_sum.specs.Bodies.{ElasticTet, corners_at}
use Rattle.potential_sum.specs.Calls.Barriers.{AreFour, MayPush}
use Rattle.potential_sum.specs.Calls.Friction.{MaySlide}
use Rattle.potential_sum.specs.Calls.Inertia.{part_at, pull_of}
use Rattle.potential_sum.specs.Calls.Kept.{MayStand}
use Rattle.potential_sum.specs.Calls.Sums.{as_pull}
use Rattle.potential_sum.specs.Contributions.{barrier_contribution, elastic_contribution, friction_contribution}
use Rattle.vec_q.proofs.CutVectors.{cut_at_most}
use Rattle.potential_sum.proofs.Lightness.{IsSmall, IsWeak}
use Rattle.potential_sum.proofs.PullSums.{IsInside}

-- ---- lists of pairs
All-zip_left : {X Y : Type 0} (P : X → Type 0) (xs : List X) (ys : List Y) → All P xs → All (λ pair. P pair.0) (zip xs ys)
All-zip_left P [] ys h = All-nil (λ pair. P pair.0)
All-zip_left P (x ∷ xs) [] h = All-nil (λ pair. P pair.0)
All-zip_left P (x ∷ xs) (y ∷ ys) h = All-cons (λ pair. P pair.0) (x, y) (zip xs ys) (All-head P x xs h) (All-zip_left P xs ys (All-tail P x xs h))

pub All-zip_right : {X Y : Type 0} (P : Y → Type 0) (xs : List X) (ys : List Y) → All P ys → All (λ pair. P pair.1) (zip xs ys)
All-zip_right P [] ys h = All-nil (λ pair. P pair.1)
All-zip_right P (x ∷ xs) [] h = All-nil (λ pair. P pair.1)
All-zip_right P (x ∷ xs) (y ∷ ys) h = All-cons (λ pair. P pair.1) (x, y) (zip xs ys) (All-head P y ys h) (All-zip_right P xs ys (All-tail P y ys h))

-- ---- inertia
cut_vector : (x y z : ℤ) → Within (2 ^ 90) (record { x = cut_of 90 x; y = cut_of 90 y; z = cut_of 90 z })
cut_vector x y z = record { x = cut_at_most 90 x; y = cut_at_most 90 y; z = cut_at_most 90 z }

inertia-weak : (mass : ℤ) (place target : V3) → Within (2 ^ 90) (inertia_gradient mass place target)
inertia-weak mass place target =
    let offset = offset_of place target in
    cut_vector (floor_of (mass *ℤ offset.x) (pos 128)) (floor_of (mass *ℤ offset.y) (pos 128)) (floor_of (mass *ℤ offset.z) (pos 128))

pub inertia-pulls-weak : (masses : List ℤ) (targets places : List V3) (node : ℕ) → All (Within (2 ^ 90)) (pull_of masses targets places node ∷ [])
inertia-pulls-weak masses targets places node =
    All-cons (Within (2 ^ 90)) (pull_of masses targets places node) [] (inertia-weak (get_or masses node (pos 0)) (place_of places node) (place_of targets node)) (All-nil (Within (2 ^ 90)))

one_small : (node : ℕ) (v : V3) → Within (2 ^ 90) v → All IsWeak (as_pull (node, v) ∷ [])
one_small node v h = All-cons IsWeak (as_pull (node, v)) [] h (All-nil IsWeak)

pub inertia-part-small : (masses : List ℤ) (targets places : List V3) (node : ℕ) → IsSmall (part_at masses targets places node)
inertia-part-small masses targets places node = record {
  few = lit≤ tt;
  weak = one_small node (pull_of masses targets places node) (inertia-weak (get_or masses node (pos 0)) (place_of places node) (place_of targets node));
}

one_inside : (count node : ℕ) (v : V3) → node < count → All (λ (pull : ℕ × V3). pull.0 < count) ((node, v) ∷ [])
one_inside count node v h = All-cons (λ (pull : ℕ × V3). pull.0 < count) (node, v) [] h (All-nil (λ (pull : ℕ × V3). pull.0 < count))

pub inertia-part-inside : (masses : List ℤ) (targets places : List V3) (count node : ℕ) → node < count → IsInside count (part_at masses targets places node)
inertia-part-inside masses targets places count node h = one_inside count node (pull_of masses targets places node) h

pub inertia-parts-small : (masses : List ℤ) (targets places : List V3) (n : ℕ) → All IsSmall (map (part_at masses targets places) (range_with_len 0 n))
inertia-parts-small masses targets places n = All-map IsSmall (part_at masses targets places) (range_with_len 0 n) (λ k d l. inertia-part-small masses targets places _)

pub inertia-parts-inside : (masses : List ℤ) (targets places : List V3) (n : ℕ) → All (IsInside n) (map (part_at masses targets places) (range_with_len 0 n))
inertia-parts-inside masses targets places n = All-map (IsInside n) (part_at masses targets places) (range_with_len 0 n) (All-counted (λ node. IsInside n (part_at masses targets places node)) n (λ node h. inertia-part-inside masses targets places n node h))

-- ---- elasticity
column-weak : (mu r outward : ℤ) (strain cofactor : V3) → Within (2 ^ 90) (elastic_pulls mu r outward strain cofactor)
column-weak mu r outward strain cofactor = cut_vector
    (floor_of (pos 8 *ℤ mu *ℤ strain.x) r +ℤ floor_of (outward *ℤ cofactor.x) (pos (2 ^ 21)))
    (floor_of (pos 8 *ℤ mu *ℤ strain.y) r +ℤ floor_of (outward *ℤ cofactor.y) (pos (2 ^ 21)))
    (floor_of (pos 8 *ℤ mu *ℤ strain.z) r +ℤ floor_of (outward *ℤ cofactor.z) (pos (2 ^ 21)))

balance-weak : (m : M3) → Within (2 ^ 90) (balance_of m)
balance-weak m = cut_vector
    (neg_ℤ (m.first.x +ℤ m.second.x +ℤ m.third.x))
    (neg_ℤ (m.first.y +ℤ m.second.y +ℤ m.third.y))
    (neg_ℤ (m.first.z +ℤ m.second.z +ℤ m.third.z))

-- each of the three columns
record AreWeak (m : M3) : Type 0 where
  first : Within (2 ^ 90) m.first
  second : Within (2 ^ 90) m.second
  third : Within (2 ^ 90) m.third

columns-weak : (rest : RestShape) (mu lambda : ℤ) (edges : M3) → AreWeak (node_pulls rest mu lambda edges)
unfolding node_pulls
columns-weak rest mu lambda edges =
    let strain = strain_gradient rest edges in
    let across = cofactors edges in
    let outward = pressure mu lambda rest.r (log_volume rest edges) (determinant_of edges) in
    record {
      first = column-weak mu rest.r outward strain.first across.first;
      second = column-weak mu rest.r outward strain.second across.second;
      third = column-weak mu rest.r outward strain.third across.third;
    }

gradient-weak : (rest : RestShape) (mu lambda : ℤ) (x : List V3) → All (Within (2 ^ 90)) (elastic_gradient rest mu lambda x)
gradient-weak rest mu lambda x =
    let pulls = node_pulls rest mu lambda (edge_matrix x) in
    let weak = columns-weak rest mu lambda (edge_matrix x) in
    let P : V3 → Type 0 = Within (2 ^ 90) in
    All-cons P (balance_of pulls) (pulls.first ∷ pulls.second ∷ pulls.third ∷ []) (balance-weak pulls)
    (All-cons P pulls.first (pulls.second ∷ pulls.third ∷ []) weak.first
    (All-cons P pulls.second (pulls.third ∷ []) weak.second
    (All-cons P pulls.third [] weak.third (All-nil P))))

pub elastic-pulls-weak : (x : List V3) (tet : ElasticTet) → All (Within (2 ^ 90)) (elastic_contribution x tet).pulls
elastic-pulls-weak x tet = gradient-weak tet.rest tet.mu tet.lambda (corners_at x tet.nodes)

-- at most four vectors, none of them strong
four_small : (nodes : List ℕ) (vectors : List V3) → length nodes ≤ 4 ⊎ length vectors ≤ 4 → All (Within (2 ^ 90)) vectors → length (map as_pull (zip nodes vectors)) ≤ 4 × All IsWeak (map as_pull (zip nodes vectors))
four_small nodes vectors e h = (few e, All-map IsWeak as_pull (zip nodes vectors) (All-zip_right (Within (2 ^ 90)) nodes vectors h))
  where
    few : length nodes ≤ 4 ⊎ length vectors ≤ 4 → length (map as_pull (zip nodes vectors)) ≤ 4
    few (inl l) = omega (arith, length-map (zip nodes vectors) as_pull, length-zip nodes vectors)
    few (inr l) = omega (arith, length-map (zip nodes vectors) as_pull, length-zip nodes vectors)

pub elastic-part-small : (x : List V3) (tet : ElasticTet) → IsSmall (elastic_contribution x tet)
elastic-part-small x tet =
    let small = four_small tet.nodes (elastic_contribution x tet).pulls (inr (lit≤ tt)) (elastic-pulls-weak x tet) in record { few = small.0; weak = small.1 }

pub elastic-part-inside : (x : List V3) (tet : ElasticTet) → MayStand x tet → IsInside (length x) (elastic_contribution x tet)
elastic-part-inside x tet h = All-zip_left (λ node. node < length x) tet.nodes ((elastic_contribution x tet).pulls) h.there

-- ---- barriers
pub barrier-pulls-weak : (numbers : Numbers) (x : List V3) (parts : PartPair) → All (Within (2 ^ 90)) (barrier_contribution numbers x parts).pulls
barrier-pulls-weak numbers x parts =
    let first = map (place_of x) parts.left in
    let second = map (place_of x) parts.right in
    let near = near_between first second in
    let signed = signed_weights (length parts.left) near.weights in
    let slope = barrier_slope numbers.kappa numbers.dhat near in
    let way = signed_sum signed (first ++ second) in
    All-map (Within (2 ^ 90)) (barrier_pull_at slope way) signed (λ k d l.
    let weight = get_or signed k d in
    cut_vector (floor_of (slope *ℤ weight *ℤ way.x) (pos (2 ^ 39))) (floor_of (slope *ℤ weight *ℤ way.y) (pos (2 ^ 39))) (floor_of (slope *ℤ weight *ℤ way.z) (pos (2 ^ 39))))

four_nodes : (parts : PartPair) → AreFour parts → length (parts.left ++ parts.right) ≤ 4
four_nodes parts (inl h) = omega (arith, length-append parts.left parts.right, h.0, h.1)
four_nodes parts (inr h) = omega (arith, length-append parts.left parts.right, h.0, h.1)

pub barrier-part-small : (numbers : Numbers) (x : List V3) (parts : PartPair) → MayPush x parts → IsSmall (barrier_contribution numbers x parts)
barrier-part-small numbers x parts h =
    let small = four_small (parts.left ++ parts.right) (barrier_contribution numbers x parts).pulls (inl (four_nodes parts h.four)) (barrier-pulls-weak numbers x parts) in record { few = small.0; weak = small.1 }

pub barrier-part-inside : (numbers : Numbers) (x : List V3) (parts : PartPair) → MayPush x parts → IsInside (length x) (barrier_contribution numbers x parts)
barrier-part-inside numbers x parts h = All-zip_left (λ node. node < length x) (parts.left ++ parts.right) (barrier_contribution numbers x parts).pulls h.there

-- ---- friction
pub friction-pulls-weak : (numbers : Numbers) (x : List V3) (contact : LaggedContact) → All (Within (2 ^ 90)) (friction_contribution numbers x contact).pulls
friction-pulls-weak numbers x contact = pulls_are_small contact numbers.friction numbers.slip (corners_at x contact.nodes)

pub friction-part-small : (numbers : Numbers) (x : List V3) (contact : LaggedContact) → MaySlide x contact → IsSmall (friction_contribution numbers x contact)
friction-part-small numbers x contact h =
    let small = four_small contact.nodes (friction_contribution numbers x contact).pulls (inl (omega (arith, h.four))) (friction-pulls-weak numbers x contact) in record { few = small.0; weak = small.1 }

pub friction-part-inside : (numbers : Numbers) (x : List V3) (contact : LaggedContact) → MaySlide x contact → IsInside (length x) (friction_contribution numbers x contact)
friction-part-inside numbers x contact h = All-zip_left (λ node. node < length x) contact.nodes ((friction_contribution numbers x contact).pulls) h.there
