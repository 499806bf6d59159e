-- The pairs of parts of a surface that must not meet, in their order.
use Rattle.std.specs.Prelude.{ℕ, ◌≡◌, ◌+◌, ◌<◌, ◌==◌, nat_lt, not, true, Bool, ◌&&◌, List, [], ◌∷◌, length, map, filter, slice_get, slice_index_or, IsTrue, Option, Some, None}
use Rattle.std.specs.List.{flat_map, list_any, range_with_len}
use Rattle.std.specs.Ordering.{nat_cmp, ordering_then}
use Rattle.std.specs.declared.cmp.Ordering.{Ordering}
use Rattle.safe_motion.specs.Safety.{PartPair}
use Rattle.boundary.specs.declared.pairs.Pair.{Pair}
use Rattle.boundary.specs.declared.pairs.PairKind.{PairKind}
use Rattle.boundary.specs.declared.pairs.PairKind.TheVariants.{VE, VT, EE, ET}
use Rattle.boundary.specs.Surface.{SurfaceLists}

-- the kinds in their order
abbrev pub kinds : List PairKind
kinds = VE ∷ VT ∷ EE ∷ ET ∷ []

-- the parts, by their nodes, of which a kind's pairs have one first
abbrev pub first_parts : SurfaceLists → PairKind → List (List ℕ)
first_parts s VE = map (λ vertex. vertex ∷ []) s.vertices
first_parts s VT = map (λ vertex. vertex ∷ []) s.vertices
first_parts s EE = s.edges
first_parts s ET = s.edges

-- the parts of which they have one second
abbrev pub second_parts : SurfaceLists → PairKind → List (List ℕ)
second_parts s VE = s.edges
second_parts s VT = s.triangles
second_parts s EE = s.edges
second_parts s ET = s.triangles

-- the nodes of a pair's two parts
abbrev pub part_pair : SurfaceLists → Pair → PartPair
part_pair s p = record {
  left = slice_index_or (first_parts s p.kind) p.a [];
  right = slice_index_or (second_parts s p.kind) p.b [];
}

abbrev pub has_node : List ℕ → ℕ → Bool
has_node nodes x = list_any (λ y. x == y) nodes

-- some node is in both parts
abbrev pub share_node : PartPair → Bool
share_node parts = list_any (has_node parts.right) parts.left

-- of two edges the lower one is first
abbrev pub is_in_order : PairKind → ℕ → ℕ → Bool
is_in_order EE a b = nat_lt a b
is_in_order VE a b = true
is_in_order VT a b = true
is_in_order ET a b = true

-- a pair counts where its parts have no common node; each two edges count once
abbrev pub counts : SurfaceLists → Pair → Bool
counts s p = is_in_order p.kind p.a p.b && not (share_node (part_pair s p))

abbrev pub pair_of : PairKind → ℕ → ℕ → Pair
pair_of kind a b = record { kind = kind; a = a; b = b }

-- all pairs of a first and a second, by the first and then by the second
abbrev pub all_pairs : PairKind → ℕ → ℕ → List Pair
all_pairs kind firsts seconds =
    flat_map (λ a. map (pair_of kind a) (range_with_len 0 seconds)) (range_with_len 0 firsts)

-- the pairs of a kind that count
abbrev pub pairs_of_kind : SurfaceLists → PairKind → List Pair
pairs_of_kind s kind =
    filter (counts s) (all_pairs kind (length (first_parts s kind)) (length (second_parts s kind)))

-- the pair order: the pairs of all kinds, one kind after another
abbrev pub pairs_of : SurfaceLists → List Pair
pairs_of s = flat_map (pairs_of_kind s) kinds

-- a pair of the pair order
pub record IsPair (s : SurfaceLists) (p : Pair) : Type 0 where
  pub first : p.a < length (first_parts s p.kind)
  pub second : p.b < length (second_parts s p.kind)
  pub counts_there : IsTrue (counts s p)

-- the place of a kind among the kinds
abbrev pub rank : PairKind → ℕ
rank VE = 0
rank VT = 1
rank EE = 2
rank ET = 3

-- by kind, then by the first part, then by the second
abbrev pub pair_order : Pair → Pair → Ordering
pair_order p q =
    ordering_then (nat_cmp (rank p.kind) (rank q.kind)) (ordering_then (nat_cmp p.a q.a) (nat_cmp p.b q.b))

-- what stands after an element of a list; the first, where none is given
abbrev pub Follows : List Pair → Option Pair → Option Pair → Type 0
Follows pairs None next = next ≡ slice_get pairs 0
Follows pairs (Some p) next = (k : ℕ) → slice_get pairs k ≡ Some p → next ≡ slice_get pairs (k + 1)
