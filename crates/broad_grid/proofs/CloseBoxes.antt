-- Pairs of a surface are close where the boxes of their parts are, in the lists of all parts' boxes.
use Rattle.std.proofs.Common.{◌≡◌, ◌∙◌, ℕ, ◌<◌, ◌&&◌, List, [], get_or, length, ap, arith}
use Rattle.std.specs.List.{All, filter}
use Rattle.std.proofs.Math.ListN.{get_or-map}
use Rattle.space3.specs.declared.vectors.V3.{V3}
use Rattle.space3.specs.Boxes.{are_within}
use Rattle.space3.specs.Vectors.{origin}
use Rattle.boundary.specs.declared.pairs.Pair.{Pair}
use Rattle.boundary.specs.declared.pairs.PairKind.{PairKind}
use Rattle.boundary.specs.declared.pairs.PairKind.TheVariants.{VE, VT, EE, ET}
use Rattle.boundary.specs.Pairs.{IsPair, first_parts, part_pair, second_parts}
use Rattle.boundary.specs.Surface.{SurfaceLists}
use Rattle.box_grid.specs.Near.{LiesInTheBox, box_at}
use Rattle.broad_grid.specs.NearPairs.{is_close, is_of_close_kind}
use Rattle.broad_grid.specs.PartBoxes.{part_box, swept_box}
use Rattle.broad_grid.specs.Calls.Boxes.{BoxesOfParts, HasBoth, HasBoxes, first_boxes, has_close_boxes, second_boxes}
use Rattle.broad_grid.proofs.BoxesInTheBox.{around_itself}
use Rattle.broad_grid.proofs.PlacedParts.{as_many}
use Rattle.broad_grid.proofs.RowsOfPairs.{firsts_are, seconds_are}

-- each box of the lists is in the box of places
all_in_box : (s : SurfaceLists) (x0 x1 : List V3) (boxes : BoxesOfParts) → HasBoxes s x0 x1 boxes → (kind : PairKind) → (All LiesInTheBox (first_boxes boxes kind)) × (All LiesInTheBox (second_boxes boxes kind))
all_in_box s x0 x1 boxes h VE = (h.vertices_in_box, h.edges_in_box)
all_in_box s x0 x1 boxes h VT = (h.vertices_in_box, h.triangles_in_box)
all_in_box s x0 x1 boxes h EE = (h.edges_in_box, h.edges_in_box)
all_in_box s x0 x1 boxes h ET = (h.edges_in_box, h.triangles_in_box)

-- there are boxes of both parts of each pair
pub have_both : (s : SurfaceLists) (x0 x1 : List V3) (boxes : BoxesOfParts) (pairs : List Pair) → HasBoxes s x0 x1 boxes → All (IsPair s) pairs → All (HasBoth boxes) pairs
have_both s x0 x1 boxes pairs h each = λ k d l.
    let p = get_or pairs k d in
    let many = as_many s x0 x1 boxes h in
    let in_box = all_in_box s x0 x1 boxes h p.kind in
    let first : p.a < length (first_boxes boxes p.kind) = omega (arith, (many.firsts p.kind).as_many, (each k d l).first) in
    let second : p.b < length (second_boxes boxes p.kind) = omega (arith, many.seconds p.kind, (each k d l).second) in
    record {
      first = first;
      second = second;
      first_in_box = in_box.0 p.a (record { least = origin; greatest = origin }) first;
      second_in_box = in_box.1 p.b (record { least = origin; greatest = origin }) second;
    }

pub close_by_boxes_are_close : (reach : ℕ) (s : SurfaceLists) (x : List V3) (boxes : BoxesOfParts) (pairs : List Pair) → HasBoxes s x x boxes → filter (has_close_boxes reach boxes) pairs ≡ filter (is_close reach s x) pairs
close_by_boxes_are_close reach s x boxes pairs h = λ i. filter (λ p. same p i) pairs
  where
    left : (p : Pair) → box_at (first_boxes boxes p.kind) p.a ≡ part_box x (part_pair s p).left
    left p = ap (λ l. box_at l p.a) (firsts_are s x x boxes h p.kind) ∙ get_or-map (swept_box x x) (first_parts s p.kind) p.a [] ∙ around_itself (part_box x (part_pair s p).left)

    right : (p : Pair) → box_at (second_boxes boxes p.kind) p.b ≡ part_box x (part_pair s p).right
    right p = ap (λ l. box_at l p.b) (seconds_are s x x boxes h p.kind) ∙ get_or-map (swept_box x x) (second_parts s p.kind) p.b [] ∙ around_itself (part_box x (part_pair s p).right)

    same : (p : Pair) → has_close_boxes reach boxes p ≡ is_close reach s x p
    same p = λ i. is_of_close_kind p.kind && are_within reach (left p i) (right p i)
