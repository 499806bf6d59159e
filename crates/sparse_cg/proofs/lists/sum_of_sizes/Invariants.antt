use Rattle.std.proofs.Common.{◌≡◌, ◌^◌, ◌*◌, ◌≤◌, unsigned_abs, map, take}
use Rattle.std.specs.Prelude.{sum}
use Rattle.sparse_cg.proofs.lists.sum_of_sizes.Given as goal

abbrev pub invariant-loop-x : goal.invariant-loop-x
invariant-loop-x l = record {
  value : l.sum ≡ sum (map unsigned_abs (take l.x-index l.xs));
  bound : l.sum ≤ l.x-index * 2 ^ 44;
}
