use Rattle.std.proofs.Common.{◌≡◌, length}
use Rattle.std.specs.Prelude.{find}
use Rattle.boundary.specs.Calls.Groups.{groups_of, are_two_alike}
use Rattle.boundary.proofs.groups.first_same.Given as goal

abbrev pub invariant-loop-rest : goal.invariant-loop-rest
invariant-loop-rest l = find are_two_alike (groups_of l.faces) ≡ find are_two_alike (groups_of l.rest)

abbrev pub decreases-loop-rest : goal.decreases-loop-rest
decreases-loop-rest l = length l.rest
