-- Where the parts of a pair are.
use Rattle.std.specs.Prelude.{◌≡◌, List, map}
use Rattle.space3.specs.declared.vectors.V3.{V3}
use Rattle.space3.specs.Mesh.{place_of}
use Rattle.space3.specs.Spots.{points}
use Rattle.safe_motion.specs.Safety.{PartPair}
use Rattle.boundary.specs.declared.parts.PairParts.{PairParts}

-- the corners of both parts are the places of their nodes, at the start and at the end
pub record HavePlaces (x0 x1 : List V3) (nodes : PartPair) (parts : PairParts) : Type 0 where
  pub first_start : points parts.a.start ≡ map (place_of x0) nodes.left
  pub first_end : points parts.a.end ≡ map (place_of x1) nodes.left
  pub second_start : points parts.b.start ≡ map (place_of x0) nodes.right
  pub second_end : points parts.b.end ≡ map (place_of x1) nodes.right
