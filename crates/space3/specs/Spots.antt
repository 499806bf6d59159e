-- The points of a spot, and parts in the box.
use Rattle.std.specs.Prelude.{List, take, All}
use Rattle.space3.specs.declared.vectors.V3.{V3}
use Rattle.space3.specs.declared.spots.Spot.{Spot}
use Rattle.space3.specs.declared.spots.Part.{Part}
use Rattle.space3.specs.Box.{IsInTheBox}

-- the first `count` points
abbrev pub points : Spot → List V3
points s = take s.count s.at

-- all corners of a part are in the box, at the start and at the end
pub record StaysInTheBox (part : Part) : Type 0 where
  pub start : All IsInTheBox (points part.start)
  pub end : All IsInTheBox (points part.end)
