-- A part of a mesh in motion, as a list of moving points.
use Rattle.std.specs.Prelude.{List, map}
use Rattle.std.specs.List.{zip}
use Rattle.space3.specs.declared.vectors.V3.{V3}
use Rattle.space3.specs.declared.spots.Part.{Part}
use Rattle.space3.specs.Vectors.{origin}
use Rattle.space3.specs.Spots.{points}
use Rattle.safe_motion.specs.declared.motion.Move.{Move}

-- from the first place to the second
abbrev pub move_between : V3 × V3 → Move
move_between (start, end) = record { start = start; end = end }

-- a point that stays at the origin
abbrev pub still : Move
still = record { start = origin; end = origin }

-- the corners of the part, each with its places at the start and at the end
abbrev pub moves_of : Part → List Move
moves_of part = map move_between (zip (points part.start) (points part.end))
