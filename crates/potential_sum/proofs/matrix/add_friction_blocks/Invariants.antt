use Rattle.std.proofs.Common.{◌*◌, map, take}
use Rattle.potential_sum.specs.Calls.Friction.{friction_at}
use Rattle.potential_sum.specs.Calls.Stiffness.{HaveMore, stiffness_of}
use Rattle.potential_sum.proofs.matrix.add_friction_blocks.Given as goal

abbrev pub invariant-loop-contact : goal.invariant-loop-contact
invariant-loop-contact l = HaveMore (stiffness_of (map (friction_at l.numbers l.x) (take l.contact-index l.contacts))) (16 * l.contact-index) l.fn.sums l.sums
