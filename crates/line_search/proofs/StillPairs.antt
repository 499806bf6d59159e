-- Pairs that stand apart and don't move are certified to stay apart.
use Rattle.std.proofs.Common.{◌≡◌, ◌∙◌, ◌<◌, ◌^◌, ◌+◌, ℕ, zero, suc, ℤ, pos, ◌+ℤ◌, ◌-ℤ◌, ◌*ℤ◌, Bool, true, false, ◌&&◌, List, [], ◌∷◌, map, ◌⊎◌, inl, inr, refl, sym, subst, arith}
use Rattle.std.specs.Prelude.{All, not, slice_index_or}
use Rattle.std.proofs.lemmas.Bool.{and_parts}
use Rattle.whole_laws.proofs.Ring.{ring, v, ◌⊕◌, ◌⊖◌, ◌⊗◌}
use Rattle.space3.specs.declared.vectors.V3.{V3}
use Rattle.space3.specs.Vectors.{between, multiple, vector}
use Rattle.space3.specs.Mesh.{place_of}
use Rattle.safe_motion.specs.declared.motion.Move.{Move}
use Rattle.safe_motion.specs.declared.depth.TheConstants.{DEPTH}
use Rattle.safe_motion.specs.Certificates.{IsServed}
use Rattle.safe_motion.specs.Meeting.{MeetAt, Meets, Separates}
use Rattle.safe_motion.specs.Moments.{IsFraction, places_at}
use Rattle.safe_motion.specs.Safety.{PartPair, node_moves}
use Rattle.safe_motion.proofs.Ends.{standing_safe}
use Rattle.plane_cut.proofs.Alternative.{separated_or}
use Rattle.boundary.specs.declared.pairs.Pair.{Pair}
use Rattle.boundary.specs.Pairs.{part_pair}
use Rattle.boundary.specs.Surface.{SurfaceLists}
use Rattle.broad_grid.specs.Held.{are_held, is_loose}
use Rattle.broad_grid.specs.Moving.{still_nodes}
use Rattle.broad_grid.proofs.MovingPairs.{same_place}
use Rattle.surface_mesh.specs.declared.setup.Setup.{Setup}
use Rattle.surface_mesh.specs.Safety.{IsSafeAt, corner_nodes, part_pairs}
use Rattle.line_search.specs.Calls.PairCertificates.{IsApart}

-- ---- parts that stand
-- a point that stands has its place at each moment
still_place : (p q : ℕ) (a : V3) → between p q a a ≡ multiple (pos q) a
still_place p q a = λ i. vector (each a.x i) (each a.y i) (each a.z i)
  where
    each : (a : ℤ) → (pos q -ℤ pos p) *ℤ a +ℤ pos p *ℤ a ≡ pos q *ℤ a
    each a = ring (pos p ∷ pos q ∷ a ∷ []) ((v 1 ⊖ v 0) ⊗ v 2 ⊕ v 0 ⊗ v 2) (v 1 ⊗ v 2) tt

still_places : (p q : ℕ) (x : List V3) (nodes : List ℕ) → places_at p q (node_moves x x nodes) ≡ map (λ node. multiple (pos q) (place_of x node)) nodes
still_places p q x [] = refl
still_places p q x (node ∷ nodes) = λ i. still_place p q (place_of x node) i ∷ still_places p q x nodes i

same_at : (p r q : ℕ) (x : List V3) (nodes : List ℕ) → places_at p q (node_moves x x nodes) ≡ places_at r q (node_moves x x nodes)
same_at p r q x nodes = still_places p q x nodes ∙ sym (still_places r q x nodes)

-- two parts that stand don't meet at any moment
pub record StandApart (x : List V3) (parts : PartPair) : Type 0 where
  pub apart : (p q : ℕ) → IsFraction p q → ¬ MeetAt p q (node_moves x x parts.left) (node_moves x x parts.right)

pub safe_stand_apart : (setup : Setup) (x : List V3) → IsSafeAt setup x → All (StandApart x) (part_pairs setup)
safe_stand_apart setup x safe = λ k d l. record { apart = λ p q f. (standing_safe (part_pairs setup) (corner_nodes setup) x safe).apart p q f k d l }

-- so one vector serves each interval
still_served : (x : List V3) (parts : PartPair) (j n : ℕ) → StandApart x parts → j < n → IsServed (node_moves x x parts.left) (node_moves x x parts.right) j n
still_served x parts j n stand l = by (separated_or (places_at j n (node_moves x x parts.left)) (places_at j n (node_moves x x parts.right)))
  where
    by : ((normal : V3) × Separates normal (places_at j n (node_moves x x parts.left)) (places_at j n (node_moves x x parts.right))) ⊎ Meets (places_at j n (node_moves x x parts.left)) (places_at j n (node_moves x x parts.right))
        → IsServed (node_moves x x parts.left) (node_moves x x parts.right) j n
    by (inl found) = record {
      normal = found.0;
      serves = record {
        before = found.1;
        after = subst (λ (ps : List V3). Separates found.0 ps (places_at (j + 1) n (node_moves x x parts.right))) (same_at j (j + 1) n x parts.left)
            (subst (λ (ps : List V3). Separates found.0 (places_at j n (node_moves x x parts.left)) ps) (same_at j (j + 1) n x parts.right) found.1);
      };
    }
    by (inr met) = absurd (stand.apart j n (record { within = omega (arith, l); divisor = omega (arith, l) }) met)

-- ---- nodes that end where they start
stays : (x y : List V3) (node : ℕ) → slice_index_or (still_nodes x y) node false ≡ true → place_of x node ≡ place_of y node
stays [] y node e = cc
stays (p ∷ ps) [] node e = cc
stays (p ∷ ps) (q ∷ qs) zero e = same_place p q e
stays (p ∷ ps) (q ∷ qs) (suc node) e = stays ps qs node e

moves_stand : (x y : List V3) (nodes : List ℕ) → are_held (still_nodes x y) nodes ≡ true → node_moves x x nodes ≡ node_moves x y nodes
moves_stand x y [] e = refl
moves_stand x y (node ∷ nodes) e =
    let both = and_parts (slice_index_or (still_nodes x y) node false) (are_held (still_nodes x y) nodes) e in
    λ i. record { start = place_of x node; end = stays x y node both.0 i } ∷ moves_stand x y nodes both.1 i

-- a pair that doesn't move is certified
pub still_is_apart : (s : SurfaceLists) (x y : List V3) (p : Pair) → StandApart x (part_pair s p) → is_loose (still_nodes x y) s p ≡ false → IsApart x y (part_pair s p)
still_is_apart s x y p stand e = record {
  certificate = λ j l.
      subst (λ (moves : List Move). IsServed moves (node_moves x y parts.right) j (2 ^ DEPTH)) (moves_stand x y parts.left both.0)
      (subst (λ (moves : List Move). IsServed (node_moves x x parts.left) moves j (2 ^ DEPTH)) (moves_stand x y parts.right both.1) (still_served x parts j (2 ^ DEPTH) stand l));
}
  where
    parts : PartPair
    parts = part_pair s p

    told : (b : Bool) → not b ≡ false → b ≡ true
    told true e = refl
    told false e = cc

    both : (are_held (still_nodes x y) parts.left ≡ true) × (are_held (still_nodes x y) parts.right ≡ true)
    both = and_parts _ _ (told (are_held (still_nodes x y) parts.left && are_held (still_nodes x y) parts.right) e)
