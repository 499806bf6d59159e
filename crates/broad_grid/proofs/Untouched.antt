-- Parts whose boxes don't touch in a motion are certified to stay apart.
use Rattle.std.proofs.Common.{◌≡◌, ◌∙◌, ℕ, ◌<◌, ◌≤◌, List, [], ◌∷◌, ◌++◌, map, length, false, true, sym, subst, arith}
use Rattle.std.proofs.lemmas.Simd.{map-map}
use Rattle.space3.specs.declared.vectors.V3.{V3}
use Rattle.space3.specs.Boxes.{BoxesTouch, are_within, box_of}
use Rattle.space3.specs.Mesh.{place_of}
use Rattle.space3.proofs.BoxLemmas.{box-joined, touch-is}
use Rattle.safe_motion.specs.declared.motion.Move.{Move}
use Rattle.safe_motion.specs.Certificates.{PairCertificate}
use Rattle.safe_motion.specs.Safety.{node_move, node_moves}
use Rattle.safe_motion.specs.SweptBoxes.{SweptBoxesTouch, both_ends}
use Rattle.safe_motion.proofs.BoxLemmas.{untouched_is_certified}
use Rattle.boundary.specs.declared.pairs.Pair.{Pair}
use Rattle.boundary.specs.Calls.Parts.{IsPart}
use Rattle.boundary.specs.Pairs.{IsPair, part_pair}
use Rattle.boundary.specs.Surface.{AreSurfaceLists, SurfaceLists}
use Rattle.boundary.proofs.SurfaceParts.{first_of_pair, second_of_pair}
use Rattle.broad_grid.specs.NearPairs.{boxes_touch}
use Rattle.broad_grid.specs.PartBoxes.{swept_box}

-- the places of a part at the start, and then at the end
abbrev ends_of : (x0 x1 : List V3) → List ℕ → List V3
ends_of x0 x1 nodes = map (place_of x0) nodes ++ map (place_of x1) nodes

ends-are : (x0 x1 : List V3) (nodes : List ℕ) → both_ends (node_moves x0 x1 nodes) ≡ ends_of x0 x1 nodes
ends-are x0 x1 nodes = λ i. map-map (λ (m : Move). m.start) (node_move x0 x1) nodes i ++ map-map (λ (m : Move). m.end) (node_move x0 x1) nodes i

swept-is : (x0 x1 : List V3) (node : ℕ) (nodes : List ℕ) → swept_box x0 x1 (node ∷ nodes) ≡ box_of (ends_of x0 x1 (node ∷ nodes))
swept-is x0 x1 node nodes = box-joined (place_of x0 node) (place_of x1 node) (map (place_of x0) nodes) (map (place_of x1) nodes)

differ : false ≡ true → ⊥
differ e = cc

-- boxes that don't touch have no common point
apart : (x0 x1 : List V3) (left right : List ℕ) → 0 < length left → 0 < length right → are_within 0 (swept_box x0 x1 left) (swept_box x0 x1 right) ≡ false → ¬ SweptBoxesTouch (node_moves x0 x1 left) (node_moves x0 x1 right)
apart x0 x1 [] right h k e = absurd (omega arith)
apart x0 x1 (m ∷ ms) [] h k e = absurd (omega arith)
apart x0 x1 (m ∷ ms) (n ∷ ns) h k e =
    λ touch.
    let same : are_within 0 (swept_box x0 x1 (m ∷ ms)) (swept_box x0 x1 (n ∷ ns)) ≡ are_within 0 (box_of (ends_of x0 x1 (m ∷ ms))) (box_of (ends_of x0 x1 (n ∷ ns))) =
    λ i. are_within 0 (swept-is x0 x1 m ms i) (swept-is x0 x1 n ns i) in
    let common : BoxesTouch (ends_of x0 x1 (m ∷ ms)) (ends_of x0 x1 (n ∷ ns)) =
    subst (λ (xs : List V3). BoxesTouch xs (ends_of x0 x1 (n ∷ ns))) (ends-are x0 x1 (m ∷ ms))
    (subst (λ (ys : List V3). BoxesTouch (both_ends (node_moves x0 x1 (m ∷ ms))) ys) (ends-are x0 x1 (n ∷ ns)) touch) in
    differ (sym e ∙ same ∙ (touch-is (place_of x0 m) (place_of x0 n) (map (place_of x0) ms ++ map (place_of x1) (m ∷ ms)) (map (place_of x0) ns ++ map (place_of x1) (n ∷ ns))).1 common)

-- so such a pair is certified, at whatever depth
pub untouched_certified : (s : SurfaceLists) (x0 x1 : List V3) (p : Pair) (depth : ℕ) → AreSurfaceLists s → IsPair s p → boxes_touch s x0 x1 p ≡ false → PairCertificate depth (node_moves x0 x1 (part_pair s p).left) (node_moves x0 x1 (part_pair s p).right)
untouched_certified s x0 x1 p depth lists pair e =
    let left : IsPart s (part_pair s p).left = first_of_pair s p.kind p.a lists pair.first in
    let right : IsPart s (part_pair s p).right = second_of_pair s p.kind p.b lists pair.second in
    untouched_is_certified (node_moves x0 x1 (part_pair s p).left) (node_moves x0 x1 (part_pair s p).right)
    (apart x0 x1 (part_pair s p).left (part_pair s p).right (some left.some) (some right.some) e) depth
  where
    some : {n : ℕ} → 1 ≤ n → 0 < n
    some h = omega (arith, h)
