-- Pairs whose parts stand: where their boxes don't touch, they don't meet.
use Rattle.std.proofs.Common.{◌≡◌, List, ◌∷◌, false, lit<, lit≤, sym, subst}
use Rattle.std.specs.Prelude.{All, IfNone, IfSome, Option, None, Some}
use Rattle.std.proofs.lemmas.List.Elements.{All-filter, All-head, All-map, All-same, All-weaker}
use Rattle.list_laws.proofs.Elements.{All-append_right}
use Rattle.list_laws.specs.Firsts.{IsFirstOf}
use Rattle.list_laws.proofs.Filters.{All-filter_back}
use Rattle.list_laws.proofs.Firsts.{first_of_filtered}
use Rattle.space3.specs.declared.vectors.V3.{V3}
use Rattle.safe_motion.specs.declared.depth.TheConstants.{DEPTH}
use Rattle.safe_motion.specs.Safety.{PartPair, node_moves}
use Rattle.safe_motion.proofs.Certified.{certified_apart}
use Rattle.safe_motion.proofs.Ends.{places-start}
use Rattle.safe_motion.proofs.Standing.{meeting_along}
use Rattle.boundary.specs.declared.pairs.Pair.{Pair}
use Rattle.boundary.specs.Pairs.{IsPair, pairs_of, part_pair}
use Rattle.boundary.proofs.PairOrder.{pairs_sorted}
use Rattle.broad_grid.specs.NearPairs.{boxes_touch, swept_pairs_of}
use Rattle.broad_grid.proofs.Untouched.{untouched_certified}
use Rattle.surface_mesh.specs.declared.setup.Setup.{Setup}
use Rattle.surface_mesh.specs.Safety.{HaveMet, part_pairs}
use Rattle.surface_mesh.specs.Setup.{IsSetup}
use Rattle.mesh_check.specs.Defects.{PartsMeet}

-- a pair whose boxes don't touch where the mesh stands doesn't meet there
untouched : (s : Setup) → IsSetup s → (pair : Pair) → IsPair s.surface pair → boxes_touch s.surface s.mesh.places s.mesh.places pair ≡ false → ¬ PartsMeet s pair
untouched s h pair listed e =
    let x : List V3 = s.mesh.places in
    let parts : PartPair = part_pair s.surface pair in
    λ m. certified_apart DEPTH (node_moves x x parts.left) (node_moves x x parts.right)
    (untouched_certified s.surface x x pair DEPTH h.has_surface.lists listed e)
    0 1 (record { within = lit≤ tt; divisor = lit< tt })
    (meeting_along (sym (places-start x x parts.left)) (sym (places-start x x parts.right)) m.common)

pub first_of_all : (s : Setup) (pair : Pair) → IsSetup s → IsFirstOf (PartsMeet s) (swept_pairs_of s.surface s.mesh.places s.mesh.places) pair → IsFirstOf (PartsMeet s) (pairs_of s.surface) pair
first_of_all s pair h f =
    first_of_filtered (PartsMeet s) (IsPair s.surface) (boxes_touch s.surface s.mesh.places s.mesh.places) (untouched s h)
    (pairs_of s.surface) pair (pairs_sorted s.surface).each f

pub none_of_all : (s : Setup) → IsSetup s → All (λ pair. ¬ PartsMeet s pair) (swept_pairs_of s.surface s.mesh.places s.mesh.places) → All (λ pair. ¬ PartsMeet s pair) (pairs_of s.surface)
none_of_all s h none =
    All-filter_back (λ pair. ¬ PartsMeet s pair) (IsPair s.surface) (boxes_touch s.surface s.mesh.places s.mesh.places) (untouched s h)
    (pairs_of s.surface) (pairs_sorted s.surface).each none

-- the same of pairs by their nodes
pub parts_apart : (s : Setup) → All (λ pair. ¬ PartsMeet s pair) (pairs_of s.surface) → All (λ parts. ¬ HaveMet s.mesh.places parts) (part_pairs s)
parts_apart s none =
    All-map (λ parts. ¬ HaveMet s.mesh.places parts) (part_pair s.surface) (pairs_of s.surface)
    (All-weaker (λ pair. ¬ PartsMeet s pair) (λ pair. ¬ HaveMet s.mesh.places (part_pair s.surface pair)) (λ pair apart met. apart (record { common = met })) (pairs_of s.surface) none)

-- ---- the answers of a search among the pairs whose boxes touch
abbrev Touching : Setup → List Pair
Touching s = swept_pairs_of s.surface s.mesh.places s.mesh.places

pub touching_are_pairs : (s : Setup) (pairs : List Pair) → pairs ≡ Touching s → All (IsPair s.surface) pairs
touching_are_pairs s pairs e =
    All-same (IsPair s.surface) pairs (Touching s) e
    (All-filter (boxes_touch s.surface s.mesh.places s.mesh.places) (IsPair s.surface) (pairs_of s.surface) (pairs_sorted s.surface).each)

pub first_in_order : (s : Setup) (pairs : List Pair) (found : Option Pair) → IsSetup s → pairs ≡ Touching s → IfSome found (IsFirstOf (PartsMeet s) pairs) → IfSome found (IsFirstOf (PartsMeet s) (pairs_of s.surface))
first_in_order s pairs None h e f = tt
first_in_order s pairs (Some pair) h e f = first_of_all s pair h (subst (λ ps. IsFirstOf (PartsMeet s) ps pair) e f)

pub none_in_order : (s : Setup) (pairs : List Pair) (found : Option Pair) → IsSetup s → pairs ≡ Touching s → IfNone found (All (λ pair. ¬ PartsMeet s pair) pairs) → IfNone found (All (λ pair. ¬ PartsMeet s pair) (pairs_of s.surface))
none_in_order s pairs None h e f = none_of_all s h (subst (All (λ pair. ¬ PartsMeet s pair)) e f)
none_in_order s pairs (Some pair) h e f = tt

-- a pair that is found is one of the order
pub found_is_pair : (s : Setup) (pair : Pair) → IsFirstOf (PartsMeet s) (pairs_of s.surface) pair → IsPair s.surface pair
found_is_pair s pair f =
    All-head (IsPair s.surface) pair f.after (All-append_right (IsPair s.surface) f.before (pair ∷ f.after) (subst (All (IsPair s.surface)) f.cut (pairs_sorted s.surface).each))
