-- Two close parts as four nodes and the number of nodes of the first.
use Rattle.std.proofs.Common.{◌≡◌, ◌∙◌, ℕ, ◌≤◌, ◌<◌, ◌^◌, ℤ, pos, ◌≤ℤ◌, unsigned_abs, List, [], ◌∷◌, length, map, take, drop, get_or, ap, sym, subst, arith, lit<, inl, inr, w64, to_z, of_z}
use Rattle.std.specs.Prelude.{All, zip}
use Rattle.std.proofs.lemmas.Int.{ints}
use Rattle.std.proofs.lemmas.List.{length-map, length-take, length-drop, take-append-drop, map-append, take-map, drop-map}
use Rattle.whole_laws.specs.Ranges.{IsFrom}
use Rattle.whole_laws.proofs.Order.{clean}
use Rattle.list_laws.proofs.Fours.{four_of, map-four}
use Rattle.space3.specs.declared.vectors.V3.{V3}
use Rattle.space3.specs.Mesh.{HasNodes, place_of}
use Rattle.boundary.specs.declared.pairs.Pair.{Pair}
use Rattle.boundary.specs.Pairs.{part_pair}
use Rattle.surface_mesh.specs.declared.materials.Numbers.{Numbers}
use Rattle.surface_mesh.specs.declared.setup.Setup.{Setup}
use Rattle.surface_mesh.specs.Materials.{AreNumbers}
use Rattle.nearest.specs.Close.{AreClose}
use Rattle.nearest.specs.declared.limits.TheConstants.{GAP_LIMIT}
use Rattle.near_pair.specs.declared.near.Near.{Near}
use Rattle.near_pair.specs.Answers.{IsSplit, near_between}
use Rattle.barrier_term.specs.declared.active.TheConstants.{MOST_STIFFNESS}
use Rattle.vec_q.specs.Rows.{components, vector_of}
use Rattle.potential_sum.specs.declared.barriers.TwoParts.{TwoParts}
use Rattle.potential_sum.specs.declared.pulls.Pull.{Pull}
use Rattle.potential_sum.specs.Bodies.{corners_at}
use Rattle.potential_sum.specs.Calls.Barriers.{AreFour, IsClosePair, MayPush, barrier_of, parts_in}
use Rattle.potential_sum.specs.Calls.Sums.{as_pull}
use Rattle.potential_sum.specs.Contacts.{near_of_parts, nodes_of_parts, points_of_parts}
use Rattle.potential_sum.specs.Contributions.{barrier_contribution}

-- a point and three, or two and two
record AreSplit (parts : TwoParts) : Type 0 where
  four : length parts.nodes ≡ 4
  split : IsSplit parts.split
  first : length (take parts.split parts.nodes) ≡ parts.split

are_split : (parts : TwoParts) → AreFour (parts_in parts) → AreSplit parts
are_split parts (inl h) =
    let cut = length-take parts.split parts.nodes in
    let rest = length-drop parts.split parts.nodes in
    record {
      four = omega (arith, cut, rest, h.0, h.1);
      split = inl (omega (arith, cut, rest, h.0, h.1));
      first = omega (arith, cut, rest, h.0, h.1);
    }
are_split parts (inr h) =
    let cut = length-take parts.split parts.nodes in
    let rest = length-drop parts.split parts.nodes in
    record {
      four = omega (arith, cut, rest, h.0, h.1);
      split = inr (omega (arith, cut, rest, h.0, h.1));
      first = omega (arith, cut, rest, h.0, h.1);
    }

pub held_split : (x : List V3) (parts : TwoParts) → MayPush x (parts_in parts) → IsSplit parts.split
held_split x parts h = (are_split parts h.four).split

pub held_there : (x : List V3) (parts : TwoParts) → MayPush x (parts_in parts) → HasNodes x parts.nodes
held_there x parts h = subst (HasNodes x) (take-append-drop parts.split parts.nodes) h.there

held_nodes : (parts : TwoParts) → parts.nodes ≡ nodes_of_parts (parts_in parts)
held_nodes parts = sym (take-append-drop parts.split parts.nodes)

-- the parts of a pair that may push
pub held_pair : (s : Setup) (x : List V3) (pairs : List Pair) (parts : TwoParts) (k : ℕ) (d : Pair) → All (IsClosePair s x) pairs → k < length pairs → parts_in parts ≡ part_pair s.surface (get_or pairs k d) → MayPush x (parts_in parts)
held_pair s x pairs parts k d h l e = subst (MayPush x) (sym e) (h k d l).close

-- the places of the four nodes
places_of : (x : List V3) (parts : TwoParts) (points : List V3) → MayPush x (parts_in parts) → points ≡ corners_at x parts.nodes → points ≡ map (place_of x) parts.nodes
places_of x parts points h e = e ∙ sym (map-four (place_of x) parts.nodes 0 (are_split parts h.four).four)

first_places : (x : List V3) (parts : TwoParts) (points : List V3) → MayPush x (parts_in parts) → points ≡ corners_at x parts.nodes → take parts.split points ≡ map (place_of x) (take parts.split parts.nodes)
first_places x parts points h e = ap (take parts.split) (places_of x parts points h e) ∙ take-map (place_of x) parts.split parts.nodes

second_places : (x : List V3) (parts : TwoParts) (points : List V3) → MayPush x (parts_in parts) → points ≡ corners_at x parts.nodes → drop parts.split points ≡ map (place_of x) (drop parts.split parts.nodes)
second_places x parts points h e = ap (drop parts.split) (places_of x parts points h e) ∙ drop-map (place_of x) parts.split parts.nodes

-- they are close
pub held_close : (x : List V3) (parts : TwoParts) (points : List V3) → MayPush x (parts_in parts) → points ≡ corners_at x parts.nodes → AreClose (take parts.split points) (drop parts.split points)
held_close x parts points h e =
    subst (λ (first : List V3). AreClose first (drop parts.split points)) (sym (first_places x parts points h e))
    (subst (AreClose (map (place_of x) (take parts.split parts.nodes))) (sym (second_places x parts points h e)) h.close)

-- where they are, and their nearest points
pub held_points : (x : List V3) (parts : TwoParts) (points : List V3) → MayPush x (parts_in parts) → points ≡ corners_at x parts.nodes → points ≡ points_of_parts x (parts_in parts)
held_points x parts points h e =
    places_of x parts points h e ∙ ap (map (place_of x)) (held_nodes parts) ∙ map-append (place_of x) (take parts.split parts.nodes) (drop parts.split parts.nodes)

pub held_near : (x : List V3) (parts : TwoParts) (points : List V3) (near : Near) → MayPush x (parts_in parts) → points ≡ corners_at x parts.nodes → near ≡ near_between (take parts.split points) (drop parts.split points) → near ≡ near_of_parts x (parts_in parts)
held_near x parts points near h e n = n ∙ (λ i. near_between (first_places x parts points h e i) (second_places x parts points h e i))

-- their barrier
pub held_barrier : (numbers : Numbers) (x : List V3) (parts : TwoParts) (points : List V3) (near : Near) → MayPush x (parts_in parts) → points ≡ points_of_parts x (parts_in parts) → near ≡ near_of_parts x (parts_in parts) →
    barrier_of numbers parts.nodes parts.split points near ≡ barrier_contribution numbers x (parts_in parts)
held_barrier numbers x parts points near h e n = λ i. barrier_of numbers (held_nodes parts i) (sym (are_split parts h.four).first i) (e i) (n i)

-- ---- the numbers of a scene
pub stiffness_is_in_range : (numbers : Numbers) → AreNumbers numbers → IsFrom (pos 0) MOST_STIFFNESS numbers.kappa
stiffness_is_in_range numbers h = record { low = above numbers.kappa h.kappa.low; high = h.kappa.high }
  where
    above : (a : ℤ) → pos 1 ≤ℤ a → pos 0 ≤ℤ a
    above a l = omega (arith, ints)

pub dhat_is_in_range : (numbers : Numbers) → AreNumbers numbers → IsFrom (pos 0) (pos GAP_LIMIT) numbers.dhat
dhat_is_in_range numbers h = record { low = above numbers.dhat h.dhat.low; high = h.dhat.high }
  where
    above : (a : ℤ) → pos 2 ≤ℤ a → pos 0 ≤ℤ a
    above a l = omega (arith, ints)

size : (a : ℤ) (most : ℕ) → pos 1 ≤ℤ a → a ≤ℤ pos most → unsigned_abs a ≤ most
size a most l h = omega (arith, ints)

pub kept_stiffness : (numbers : Numbers) → AreNumbers numbers → to_z w64 (of_z w64 numbers.kappa) ≡ numbers.kappa
kept_stiffness numbers h = clean w64 numbers.kappa (2 ^ 40) (size numbers.kappa (2 ^ 40) h.kappa.low h.kappa.high) (lit< tt)

pub kept_dhat : (numbers : Numbers) → AreNumbers numbers → to_z w64 (of_z w64 numbers.dhat) ≡ numbers.dhat
kept_dhat numbers h = clean w64 numbers.dhat 1024 (size numbers.dhat 1024 (above numbers.dhat h.dhat.low) h.dhat.high) (lit< tt)
  where
    above : (a : ℤ) → pos 2 ≤ℤ a → pos 1 ≤ℤ a
    above a l = omega (arith, ints)

pub kept_friction : (numbers : Numbers) → AreNumbers numbers → to_z w64 (of_z w64 numbers.friction) ≡ numbers.friction
kept_friction numbers h = clean w64 numbers.friction 1024 (from_zero numbers.friction h.friction.low h.friction.high) (lit< tt)
  where
    from_zero : (a : ℤ) → pos 0 ≤ℤ a → a ≤ℤ pos 1024 → unsigned_abs a ≤ 1024
    from_zero a l h = omega (arith, ints)

pub kept_slip : (numbers : Numbers) → AreNumbers numbers → to_z w64 (of_z w64 numbers.slip) ≡ numbers.slip
kept_slip numbers h = clean w64 numbers.slip 1024 (size numbers.slip 1024 h.slip.low h.slip.high) (lit< tt)

-- ---- four vectors at four nodes
pub held_four : (x : List V3) (parts : TwoParts) → MayPush x (parts_in parts) → length parts.nodes ≡ 4
held_four x parts h = (are_split parts h.four).four

pub four_pulls : (nodes : List ℕ) (vectors : List V3) (rows : List (List ℤ)) → length nodes ≡ 4 → length rows ≡ 4 → rows ≡ map components vectors →
    as_pull (get_or nodes 0 0, vector_of (get_or rows 0 [])) ∷ as_pull (get_or nodes 1 0, vector_of (get_or rows 1 [])) ∷ as_pull (get_or nodes 2 0, vector_of (get_or rows 2 [])) ∷ as_pull (get_or nodes 3 0, vector_of (get_or rows 3 [])) ∷ []
    ≡ map as_pull (zip nodes vectors)
four_pulls nodes vectors rows e f h = by_four (four_of nodes e) (four_of vectors (sym (length-map vectors components) ∙ sym (ap length h) ∙ f))
  where
    pulls : List ℕ → List (List ℤ) → List Pull
    pulls ns rs = as_pull (get_or ns 0 0, vector_of (get_or rs 0 [])) ∷ as_pull (get_or ns 1 0, vector_of (get_or rs 1 [])) ∷ as_pull (get_or ns 2 0, vector_of (get_or rs 2 [])) ∷ as_pull (get_or ns 3 0, vector_of (get_or rs 3 [])) ∷ []

    by_four : (a : ℕ) × (b : ℕ) × (c : ℕ) × (d : ℕ) × (nodes ≡ a ∷ b ∷ c ∷ d ∷ []) → (p : V3) × (q : V3) × (r : V3) × (s : V3) × (vectors ≡ p ∷ q ∷ r ∷ s ∷ []) → pulls nodes rows ≡ map as_pull (zip nodes vectors)
    by_four (a, b, c, d, n) (p, q, r, s, v) = (λ i. pulls (n i) ((h ∙ ap (map components) v) i)) ∙ (λ i. map as_pull (zip (sym n i) (sym v i)))
