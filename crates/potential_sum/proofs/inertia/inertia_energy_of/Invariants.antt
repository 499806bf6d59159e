use Rattle.std.proofs.Common.{◌≡◌, ◌≤◌, ◌*◌, ◌^◌, map, unsigned_abs}
use Rattle.std.specs.List.{range_with_len}
use Rattle.list_laws.specs.Sums.{total}
use Rattle.potential_sum.specs.Calls.Inertia.{energy_at}
use Rattle.potential_sum.proofs.inertia.inertia_energy_of.Given as goal

abbrev pub invariant-loop-node : goal.invariant-loop-node
invariant-loop-node l = record {
  sum : l.sum ≡ total (map (energy_at l.masses l.targets l.x) (range_with_len 0 l.node));
  bound : unsigned_abs l.sum ≤ l.node * 2 ^ 90;
}
