-- The box that places are in.
use Rattle.std.specs.Prelude.{◌^◌, ◌<◌, List, length, All}
use Rattle.space3.specs.declared.vectors.V3.{V3}
use Rattle.space3.specs.declared.places.TheConstants.{BOX_LIMIT}
use Rattle.space3.specs.Vectors.{Within}

-- each component is at most the limit of the box in absolute value
abbrev pub IsInTheBox : V3 → Type 0
IsInTheBox place = Within BOX_LIMIT place

-- fewer than 2^32 places, each in the box
pub record ArePlaces (places : List V3) : Type 0 where
  pub few : length places < 2 ^ 32
  pub each : All IsInTheBox places
