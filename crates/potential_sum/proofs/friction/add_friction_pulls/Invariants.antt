use Rattle.std.proofs.Common.{◌≡◌, map, take}
use Rattle.potential_sum.specs.Calls.Friction.{friction_at}
use Rattle.potential_sum.specs.Calls.Sums.{with_parts}
use Rattle.potential_sum.proofs.friction.add_friction_pulls.Given as goal

abbrev pub invariant-loop-contact : goal.invariant-loop-contact
invariant-loop-contact l = l.sums ≡ with_parts l.fn.sums (map (friction_at l.numbers l.x) (take l.contact-index l.contacts))
