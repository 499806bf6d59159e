use Rattle.num_q.proofs.Bounds.{within_all}
use Rattle.num_q.proofs.fixed.Q.floor_by.Goals as goal

pub floor-requires : goal.floor-requires
floor-requires g c = within_all c.args.self.raw g.row.B c.args.self.in_range c.args.self.width
