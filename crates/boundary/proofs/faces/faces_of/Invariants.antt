use Rattle.std.proofs.Common.{◌≡◌, map, take}
use Rattle.std.specs.List.{flat_map, enumerate_from}
use Rattle.boundary.specs.Faces.{face_of, turns_of}
use Rattle.boundary.proofs.faces.faces_of.Given as goal

abbrev pub invariant-loop-k : goal.invariant-loop-k
invariant-loop-k l =
    l.faces.items
    ≡ flat_map (λ placed. map (face_of placed.0) (turns_of placed.1.nodes)) (take l.k (enumerate_from 0 l.tets))
