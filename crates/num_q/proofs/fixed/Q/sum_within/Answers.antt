use Rattle.num_q.proofs.Bounds.{sum_fine}
use Rattle.num_q.proofs.fixed.Q.sum_within.Goals as goal

pub overflow_add-result : goal.overflow_add-result
overflow_add-result g c = (sum_fine c.args.self.raw c.args.other.raw g.row.B c.args.self.in_range c.args.other.in_range c.requires c.args.self.width).fits

pub invariant_of-result : goal.invariant_of-result
invariant_of-result g c = record {
  in_range = (sum_fine c.args.self.raw c.args.other.raw g.row.B c.args.self.in_range c.args.other.in_range c.requires c.args.self.width).below;
  width = c.args.self.width;
}

pub returns : goal.returns
returns g c = (sum_fine c.args.self.raw c.args.other.raw g.row.B c.args.self.in_range c.args.other.in_range c.requires c.args.self.width).same
