use Rattle.std.proofs.Common.{◌*◌, map, take}
use Rattle.potential_sum.specs.Calls.Kept.{elastic_in}
use Rattle.potential_sum.specs.Calls.Stiffness.{HaveMore, stiffness_of}
use Rattle.potential_sum.specs.Contributions.{elastic_contribution}
use Rattle.potential_sum.proofs.matrix.add_elastic_blocks.Given as goal

abbrev pub invariant-loop-body : goal.invariant-loop-body
invariant-loop-body l =
    HaveMore (stiffness_of (map (λ body. elastic_contribution l.x (elastic_in body)) (take l.body-index l.bodies))) (16 * l.body-index) l.fn.sums l.sums
