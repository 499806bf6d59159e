use Rattle.std.proofs.Common.{◌≡◌, map, take}
use Rattle.potential_sum.specs.Calls.Kept.{elastic_in}
use Rattle.potential_sum.specs.Calls.Sums.{with_parts}
use Rattle.potential_sum.specs.Contributions.{elastic_contribution}
use Rattle.potential_sum.proofs.bodies.add_elastic_pulls.Given as goal

abbrev pub invariant-loop-body : goal.invariant-loop-body
invariant-loop-body l = l.sums ≡ with_parts l.fn.sums (map (λ body. elastic_contribution l.x (elastic_in body)) (take l.body-index l.bodies))
