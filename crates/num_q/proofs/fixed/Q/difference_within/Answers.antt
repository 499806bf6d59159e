use Rattle.num_q.proofs.Bounds.{diff_fine}
use Rattle.num_q.proofs.fixed.Q.difference_within.Goals as goal

pub overflow_sub-result : goal.overflow_sub-result
overflow_sub-result g c = (diff_fine c.args.self.raw c.args.other.raw g.row.B c.args.self.in_range c.args.other.in_range c.requires c.args.self.width).fits

pub invariant_of-result : goal.invariant_of-result
invariant_of-result g c = record {
  in_range = (diff_fine c.args.self.raw c.args.other.raw g.row.B c.args.self.in_range c.args.other.in_range c.requires c.args.self.width).below;
  width = c.args.self.width;
}

pub returns : goal.returns
returns g c = (diff_fine c.args.self.raw c.args.other.raw g.row.B c.args.self.in_range c.args.other.in_range c.requires c.args.self.width).same
