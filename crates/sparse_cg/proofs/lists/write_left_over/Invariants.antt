use Rattle.std.proofs.Common.{◌^◌, ◌<◌, pos, unsigned_abs, get_or}
use Rattle.sparse_cg.specs.Calls.Lists.{left_over}
use Rattle.sparse_cg.specs.Calls.Fronts.{IsFront}
use Rattle.sparse_cg.proofs.lists.write_left_over.Given as goal

abbrev pub invariant-loop-i : goal.invariant-loop-i
invariant-loop-i l = IsFront (λ x. unsigned_abs x < 2 ^ 44) (λ k. left_over l.shift (get_or l.target k (pos 0)) (get_or l.product k (pos 0))) l.out l.i
