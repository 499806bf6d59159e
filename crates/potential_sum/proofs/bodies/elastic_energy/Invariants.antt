use Rattle.std.proofs.Common.{◌≡◌, ◌≤◌, ◌*◌, ◌^◌, map, take, unsigned_abs}
use Rattle.list_laws.specs.Sums.{total}
use Rattle.potential_sum.specs.Calls.Kept.{elastic_in}
use Rattle.potential_sum.specs.Contributions.{elastic_contribution}
use Rattle.potential_sum.proofs.bodies.elastic_energy.Given as goal

abbrev pub invariant-loop-body : goal.invariant-loop-body
invariant-loop-body l = record {
  sum : l.sum ≡ total (map (λ body. (elastic_contribution l.x (elastic_in body)).energy) (take l.body-index l.bodies));
  bound : unsigned_abs l.sum ≤ l.body-index * 2 ^ 90;
}
