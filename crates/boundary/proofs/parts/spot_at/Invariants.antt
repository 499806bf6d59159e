use Rattle.std.proofs.Common.{◌≡◌, map, take, length}
use Rattle.std.specs.Prelude.{All}
use Rattle.space3.specs.Box.{IsInTheBox}
use Rattle.space3.specs.Mesh.{place_of}
use Rattle.boundary.proofs.parts.spot_at.Given as goal

abbrev pub invariant-loop-k : goal.invariant-loop-k
invariant-loop-k l = record {
  four : length l.at ≡ 4;
  placed : take l.k l.at ≡ map (place_of l.places) (take l.k l.nodes);
  in_box : All IsInTheBox (take l.k l.at);
}
