use Rattle.std.proofs.Common.{◌≡◌, ◌++◌, map, take}
use Rattle.boundary.specs.Pairs.{pair_of}
use Rattle.broad_grid.proofs.near.append_pairs.Given as goal

abbrev pub invariant-loop-b : goal.invariant-loop-b
invariant-loop-b l = l.pairs.items ≡ l.initial.pairs.items ++ map (pair_of l.first.kind l.first.a) (take l.b-index l.seconds)
