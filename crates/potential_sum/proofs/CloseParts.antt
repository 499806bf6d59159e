-- Close parts may push each other, and there are not too many.
use Rattle.std.proofs.Common.{◌≡◌, ◌∙◌, ℕ, ◌+◌, ◌*◌, ◌<◌, ◌≤◌, ℤ, pos, ◌≤ℤ◌, true, List, map, length, unsigned_abs, inl, inr, mul-le-mul, refl, ap, sym, subst, arith}
use Rattle.std.specs.Prelude.{All}
use Rattle.std.specs.List.{Contains}
use Rattle.std.proofs.lemmas.Bool.{and_parts}
use Rattle.std.proofs.lemmas.Int.{ints}
use Rattle.std.proofs.lemmas.List.{length-map}
use Rattle.std.proofs.lemmas.List.Elements.{All-append, All-contains, All-contains_itself, All-filter, All-map, All-weaker}
use Rattle.list_laws.proofs.Membership.{Contains-from_filter}
use Rattle.space3.specs.declared.lists.Tet.{Tet}
use Rattle.space3.specs.declared.vectors.V3.{V3}
use Rattle.space3.specs.Boxes.{are_within, box_of}
use Rattle.space3.specs.Mesh.{HasNodes, IsSoundTet, place_of}
use Rattle.boundary.specs.declared.pairs.Pair.{Pair}
use Rattle.boundary.specs.declared.pairs.PairKind.{PairKind}
use Rattle.boundary.specs.declared.pairs.PairKind.TheVariants.{VE, VT, EE, ET}
use Rattle.boundary.specs.Calls.Parts.{IsPart}
use Rattle.boundary.specs.Pairs.{IsPair, pairs_of, part_pair}
use Rattle.boundary.specs.Surface.{SurfaceLists}
use Rattle.boundary.proofs.PairNodes.{few_pass, nodes_differ}
use Rattle.boundary.proofs.PairOrder.{pairs_sorted}
use Rattle.boundary.proofs.SidesOfTets.{IsSide, first_is_side, first_size, second_is_side, second_size}
use Rattle.boundary.proofs.SurfaceParts.{first_of_pair, second_of_pair}
use Rattle.broad_grid.specs.Held.{is_loose, loose_close_pairs_of}
use Rattle.broad_grid.specs.NearPairs.{close_pairs_of, is_close, is_of_close_kind}
use Rattle.broad_grid.proofs.CloseCounts.{few_close_pairs}
use Rattle.surface_mesh.specs.declared.setup.Setup.{Setup}
use Rattle.surface_mesh.specs.Setup.{IsSetup}
use Rattle.surface_mesh.proofs.ShortEdges.{corners_are_near, some_are_near}
use Rattle.nearest.specs.declared.limits.TheConstants.{EDGE_LIMIT}
use Rattle.nearest.specs.Close.{HasShortEdges}
use Rattle.nearest.proofs.CloseParts.{close_by}
use Rattle.potential_sum.specs.Calls.Barriers.{AreDifferent, AreFour, IsClosePair, MayPush}
use Rattle.potential_sum.specs.declared.contacts.TheConstants.{MOST_CLOSE}
use Rattle.potential_sum.specs.Contacts.{close_parts, nodes_of_parts}
use Rattle.potential_sum.specs.Upright.{IsUpright}
use Rattle.potential_sum.specs.Upright as upright

-- ---- the pair of a close one
-- a vertex and a triangle, or two edges
four_nodes : (s : SurfaceLists) (tets : List Tet) (p : Pair) → is_of_close_kind p.kind ≡ true → IsSide tets (first_size p.kind) (part_pair s p).left → IsSide tets (second_size p.kind) (part_pair s p).right → AreFour (part_pair s p)
four_nodes s tets p close left right = by p.kind close left.sized right.sized
  where
    by : (kind : PairKind) → is_of_close_kind kind ≡ true → length (part_pair s p).left ≡ first_size kind → length (part_pair s p).right ≡ second_size kind → AreFour (part_pair s p)
    by VE e h k = cc
    by VT e h k = inl (h, k)
    by EE e h k = inr (h, k)
    by ET e h k = cc

-- sides of tetrahedra with short edges have short edges
side_is_short : (s : Setup) (x : List V3) (size : ℕ) (nodes : List ℕ) → IsSetup s → IsUpright s x → IsSide s.mesh.tets size nodes → HasShortEdges (map (place_of x) nodes)
side_is_short s x size nodes h stands side =
    let tet = side.of_tet.tet in
    let sound : IsSoundTet (length s.mesh.numbers) tet = All-contains (IsSoundTet (length s.mesh.numbers)) s.mesh.tets tet h.mesh_is_sound.tets side.of_tet.there in
    some_are_near EDGE_LIMIT x tet.nodes nodes side.of_tet.each
    (corners_are_near EDGE_LIMIT x tet.nodes sound.four
    (All-contains (λ t. upright.HasShortEdges x t.nodes) s.mesh.tets tet stands.edges side.of_tet.there))

-- the nodes of a part have places
part_is_there : (s : Setup) (x : List V3) (nodes : List ℕ) → IsSetup s → IsUpright s x → IsPart s.surface nodes → HasNodes x nodes
part_is_there s x nodes h stands part =
    subst (λ n. All (λ node. node < n) nodes) (sym (stands.each ∙ h.mesh_is_sound.placed))
    (All-weaker (Contains s.surface.vertices) (λ node. node < length s.mesh.places)
    (λ node i. All-contains (λ v. v < length s.mesh.places) s.surface.vertices node h.has_surface.placed i) nodes part.vertices)

small_reach : (dhat : ℤ) → pos 2 ≤ℤ dhat → dhat ≤ℤ pos 1024 → unsigned_abs dhat ≤ 1024
small_reach dhat h k = omega (arith, ints)

-- the two parts of a pair as sides of tetrahedra
record AreSides (s : Setup) (p : Pair) : Type 0 where
  left : IsSide s.mesh.tets (first_size p.kind) (part_pair s.surface p).left
  right : IsSide s.mesh.tets (second_size p.kind) (part_pair s.surface p).right

are_sides : (s : Setup) (p : Pair) → IsSetup s → IsPair s.surface p → AreSides s p
are_sides s p h pair =
    let surface = h.has_surface in
    record {
      left = first_is_side s.mesh s.surface h.mesh_is_sound surface.is_surface surface.lists p.kind p.a pair.first;
      right = second_is_side s.mesh s.surface h.mesh_is_sound surface.is_surface surface.lists p.kind p.b pair.second;
    }

-- all nodes of a pair have places, and they differ
pub pair_is_there : (s : Setup) (x : List V3) (p : Pair) → IsSetup s → IsUpright s x → IsPair s.surface p → HasNodes x (nodes_of_parts (part_pair s.surface p))
pair_is_there s x p h stands pair =
    let parts = part_pair s.surface p in
    All-append (λ node. node < length x) parts.left parts.right
    (part_is_there s x parts.left h stands (first_of_pair s.surface p.kind p.a h.has_surface.lists pair.first))
    (part_is_there s x parts.right h stands (second_of_pair s.surface p.kind p.b h.has_surface.lists pair.second))

pub pair_is_different : (s : Setup) (p : Pair) → IsSetup s → IsPair s.surface p → AreDifferent (nodes_of_parts (part_pair s.surface p))
pair_is_different s p h pair =
    let sides = are_sides s p h pair in
    record { each = λ i j below l. nodes_differ s.surface p pair sides.left.ascending sides.right.ascending i j 0 below l }

may_push : (s : Setup) (x : List V3) (p : Pair) → IsSetup s → IsUpright s x → IsPair s.surface p → is_close (unsigned_abs s.numbers.dhat) s.surface x p ≡ true → MayPush x (part_pair s.surface p)
may_push s x p h stands pair close =
    let parts = part_pair s.surface p in
    let sides = are_sides s p h pair in
    let both = and_parts (is_of_close_kind p.kind) (are_within (unsigned_abs s.numbers.dhat) (box_of (map (place_of x) parts.left)) (box_of (map (place_of x) parts.right))) close in
    record {
      four = four_nodes s.surface s.mesh.tets p both.0 sides.left sides.right;
      there = pair_is_there s x p h stands pair;
      different = pair_is_different s p h pair;
      close = close_by (unsigned_abs s.numbers.dhat) (map (place_of x) parts.left) (map (place_of x) parts.right)
          (small_reach s.numbers.dhat h.in_range.dhat.low h.in_range.dhat.high)
          (side_is_short s x (first_size p.kind) parts.left h stands sides.left) (side_is_short s x (second_size p.kind) parts.right h stands sides.right) both.1;
    }

pub are_close_pairs : (s : Setup) (x : List V3) → IsSetup s → IsUpright s x → All (IsClosePair s x) (close_pairs_of (unsigned_abs s.numbers.dhat) s.surface x)
are_close_pairs s x h stands =
    let close = is_close (unsigned_abs s.numbers.dhat) s.surface x in
    let pairs = close_pairs_of (unsigned_abs s.numbers.dhat) s.surface x in
    All-weaker (Contains pairs) (IsClosePair s x)
    (λ p i.
    let found = Contains-from_filter close (pairs_of s.surface) p i in
    let pair = All-contains (IsPair s.surface) (pairs_of s.surface) p (pairs_sorted s.surface).each found.0 in
    record { there = pair; close = may_push s x p h stands pair found.1 })
    pairs (All-contains_itself pairs)

pub close_parts_may_push : (s : Setup) (x : List V3) → IsSetup s → IsUpright s x → All (MayPush x) (close_parts s x)
close_parts_may_push s x h stands =
    All-map (MayPush x) (part_pair s.surface) (close_pairs_of (unsigned_abs s.numbers.dhat) s.surface x) (λ k d l. (are_close_pairs s x h stands k d l).close)

-- ---- how many
-- at most 98304 vertices and edges, and 32768 triangles
pub few_close_parts : (s : Setup) (x : List V3) → IsSetup s → length (close_parts s x) ≤ MOST_CLOSE
few_close_parts s x h =
    let lists = h.has_surface.lists in
    let reach = unsigned_abs s.numbers.dhat in
    let points : length s.surface.vertices * length s.surface.triangles ≤ 98304 * 32768 = mul-le-mul lists.few_vertices lists.few in
    let edges : length s.surface.edges * length s.surface.edges ≤ 98304 * 98304 = mul-le-mul lists.few_edges lists.few_edges in
    at_most (few_close_pairs reach s.surface x) points edges (length-map (close_pairs_of reach s.surface x) (part_pair s.surface))
  where
    at_most : {n m a b : ℕ} → 2 * n ≤ 2 * a + b → a ≤ 98304 * 32768 → b ≤ 98304 * 98304 → m ≡ n → m ≤ MOST_CLOSE
    at_most h k l e = omega (arith, h, k, l, e)

-- ---- the pairs that were found
pub found_are_close : (s : Setup) (x : List V3) (pairs : List Pair) → IsSetup s → IsUpright s x → pairs ≡ close_pairs_of (unsigned_abs s.numbers.dhat) s.surface x → All (IsClosePair s x) pairs
found_are_close s x pairs h stands e = subst (All (IsClosePair s x)) (sym e) (are_close_pairs s x h stands)

pub found_are_few : (s : Setup) (x : List V3) (pairs : List Pair) → IsSetup s → pairs ≡ close_pairs_of (unsigned_abs s.numbers.dhat) s.surface x → length pairs ≤ MOST_CLOSE
found_are_few s x pairs h e = omega (arith, few_close_parts s x h, length-map pairs (part_pair s.surface), ap (λ (found : List Pair). length (map (part_pair s.surface) found)) e)

-- those of them that are loose
pub loose_are_close : (s : Setup) (x : List V3) (pairs : List Pair) → IsSetup s → IsUpright s x → pairs ≡ loose_close_pairs_of s.fixed (unsigned_abs s.numbers.dhat) s.surface x → All (IsClosePair s x) pairs
loose_are_close s x pairs h stands e = subst (All (IsClosePair s x)) (sym e) (All-filter (is_loose s.fixed s.surface) (IsClosePair s x) (close_pairs_of (unsigned_abs s.numbers.dhat) s.surface x) (are_close_pairs s x h stands))

pub loose_are_few : (s : Setup) (x : List V3) (pairs : List Pair) → IsSetup s → pairs ≡ loose_close_pairs_of s.fixed (unsigned_abs s.numbers.dhat) s.surface x → length pairs ≤ MOST_CLOSE
loose_are_few s x pairs h e =
    let close = close_pairs_of (unsigned_abs s.numbers.dhat) s.surface x in
    omega (arith, ap length e, few_pass (is_loose s.fixed s.surface) close, found_are_few s x close h refl)
