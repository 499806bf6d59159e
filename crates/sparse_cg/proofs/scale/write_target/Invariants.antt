use Rattle.std.proofs.Common.{◌^◌, ◌<◌, pos, unsigned_abs, get_or}
use Rattle.sparse_cg.specs.Calls.Lists.{target_number}
use Rattle.sparse_cg.specs.Calls.Fronts.{IsFront}
use Rattle.sparse_cg.proofs.scale.write_target.Given as goal

abbrev pub invariant-loop-i : goal.invariant-loop-i
invariant-loop-i l = IsFront (λ x. unsigned_abs x < 2 ^ 44) (λ k. target_number l.shift (get_or l.slopes k (pos 0))) l.out l.i
