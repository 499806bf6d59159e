use Rattle.fixed_log.proofs.Roots.{root-is}
use Rattle.fixed_log.proofs.root.isqrt.Goals as goal

pub returns-then-n-clause-value : goal.returns-then-n-clause-value
returns-then-n-clause-value c = root-is c.args.n c.short_root.result c.requires c.short_root.ensures.square c.short_root.ensures.next_square

pub returns-else-n-clause-value : goal.returns-else-n-clause-value
returns-else-n-clause-value c = root-is c.args.n c.isqrt.result c.requires c.isqrt.ensures.square_le c.isqrt.ensures.next_square_gt
