use Rattle.std.proofs.Common.{◌≡◌, ◌≤◌, ◌*◌, ◌^◌, map, take, unsigned_abs}
use Rattle.list_laws.specs.Sums.{total}
use Rattle.potential_sum.specs.Calls.Barriers.{barrier_at}
use Rattle.potential_sum.proofs.barriers.barrier_energy_of.Given as goal

abbrev pub invariant-loop-pair : goal.invariant-loop-pair
invariant-loop-pair l = record {
  sum : l.sum ≡ total (map (λ pair. (barrier_at l.fn.setup l.fn.x pair).energy) (take l.pair-index l.fn.pairs));
  bound : unsigned_abs l.sum ≤ l.pair-index * 2 ^ 90;
}
