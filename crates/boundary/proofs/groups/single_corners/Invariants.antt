use Rattle.std.proofs.Common.{◌≡◌, ◌++◌, length, map}
use Rattle.std.specs.Prelude.{filter}
use Rattle.boundary.specs.Calls.Groups.{first_corners, groups_of, has_one}
use Rattle.boundary.proofs.groups.single_corners.Given as goal

abbrev pub invariant-loop-rest : goal.invariant-loop-rest
invariant-loop-rest l =
    map first_corners (filter has_one (groups_of l.faces))
    ≡ l.corners.items ++ map first_corners (filter has_one (groups_of l.rest))

abbrev pub decreases-loop-rest : goal.decreases-loop-rest
decreases-loop-rest l = length l.rest
