use Rattle.std.proofs.Common.{◌^◌, ◌<◌, pos, unsigned_abs, get_or}
use Rattle.sparse_cg.specs.Systems.{quotient_of}
use Rattle.sparse_cg.specs.Calls.Fronts.{IsFront}
use Rattle.sparse_cg.specs.Calls.Lists.{numbers_of}
use Rattle.sparse_cg.proofs.lists.write_quotients.Given as goal

abbrev pub invariant-loop-i : goal.invariant-loop-i
invariant-loop-i l = IsFront (λ x. unsigned_abs x < 2 ^ 44) (λ k. quotient_of l.shift (get_or l.numbers k (pos 0)) (get_or (numbers_of l.divisors) k (pos 0))) l.out l.i
