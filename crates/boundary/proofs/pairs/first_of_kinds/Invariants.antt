use Rattle.std.proofs.Common.{◌≡◌, drop}
use Rattle.std.specs.List.{flat_map}
use Rattle.boundary.specs.Pairs.{pairs_of_kind}
use Rattle.boundary.proofs.pairs.first_of_kinds.Given as goal

abbrev pub invariant-loop-kind : goal.invariant-loop-kind
invariant-loop-kind l =
    flat_map (pairs_of_kind l.surface) l.kinds ≡ flat_map (pairs_of_kind l.surface) (drop l.kind-index l.kinds)
