-- Boxes of places that are in the box of places.
use Rattle.std.proofs.Common.{◌≡◌, ◌∙◌, ℕ, zero, suc, ◌+◌, ◌<◌, ℤ, List, [], ◌∷◌, ◌++◌, map, take, length, get_or, Some, ap, sym, arith}
use Rattle.std.specs.Prelude.{All, slice_get}
use Rattle.std.specs.Int.{int_min, int_max}
use Rattle.std.proofs.lemmas.Int.{ints, clamps}
use Rattle.std.proofs.lemmas.List.{map_more}
use Rattle.std.proofs.lemmas.List.Elements.{All-cons, All-nil}
use Rattle.std.proofs.lemmas.Option.{get_or_from_slice_get}
use Rattle.space3.specs.declared.boxes.BoundingBox.{BoundingBox}
use Rattle.space3.specs.declared.places.TheConstants.{BOX_LIMIT}
use Rattle.space3.specs.declared.vectors.V3.{V3}
use Rattle.space3.specs.Box.{IsInTheBox}
use Rattle.space3.specs.Boxes.{box_around, box_of}
use Rattle.space3.specs.Mesh.{place_of}
use Rattle.space3.specs.Vectors.{origin, vector}
use Rattle.space3.proofs.BoxLemmas.{box-joined, corners_keep_bound}
use Rattle.box_grid.specs.Near.{LiesInTheBox}
use Rattle.broad_grid.specs.PartBoxes.{part_box}

-- the box around two boxes in the box of places is there too
pub around_in_box : (a b : BoundingBox) → LiesInTheBox a → LiesInTheBox b → LiesInTheBox (box_around a b)
around_in_box a b h k = record {
  least = (corners_keep_bound BOX_LIMIT a.least (b.least ∷ []) (both a.least b.least h.least k.least)).0;
  greatest = (corners_keep_bound BOX_LIMIT a.greatest (b.greatest ∷ []) (both a.greatest b.greatest h.greatest k.greatest)).1;
}
  where
    both : (p q : V3) → IsInTheBox p → IsInTheBox q → All IsInTheBox (p ∷ q ∷ [])
    both p q h k = All-cons IsInTheBox p (q ∷ []) h (All-cons IsInTheBox q [] k (All-nil IsInTheBox))

-- and so is the box of a place there
pub point_in_box : (p : V3) → IsInTheBox p → LiesInTheBox (box_of (p ∷ []))
point_in_box p h =
    let both = corners_keep_bound BOX_LIMIT p [] (All-cons IsInTheBox p [] h (All-nil IsInTheBox)) in
    record { least = both.0; greatest = both.1 }

-- the box of one node more
pub part_box_more : (places : List V3) (nodes : List ℕ) (i : ℕ) (p : V3) → 0 < i → i < length nodes → slice_get places (get_or nodes i 0) ≡ Some p →
    box_around (part_box places (take i nodes)) (box_of (p ∷ [])) ≡ part_box places (take (i + 1) nodes)
part_box_more places [] i p h l is = absurd (omega arith)
part_box_more places (n ∷ ns) zero p h l is = absurd (omega arith)
part_box_more places (n ∷ ns) (suc j) p h l is =
    box-joined (place_of places n) p (map (place_of places) (take j ns)) []
    ∙ ap box_of
    (ap (λ x. map (place_of places) (take (suc j) (n ∷ ns)) ++ x ∷ []) (sym (get_or_from_slice_get places (get_or (n ∷ ns) (suc j) 0) p origin is))
    ∙ sym (map_more (place_of places) (n ∷ ns) (suc j) 0 l))

-- the box around a box and itself
pub around_itself : (b : BoundingBox) → box_around b b ≡ b
around_itself b = λ i. record {
  least = vector (min_itself b.least.x i) (min_itself b.least.y i) (min_itself b.least.z i);
  greatest = vector (max_itself b.greatest.x i) (max_itself b.greatest.y i) (max_itself b.greatest.z i);
}
  where
    min_itself : (a : ℤ) → int_min a a ≡ a
    min_itself a = omega (arith, ints, clamps)

    max_itself : (a : ℤ) → int_max a a ≡ a
    max_itself a = omega (arith, ints, clamps)
