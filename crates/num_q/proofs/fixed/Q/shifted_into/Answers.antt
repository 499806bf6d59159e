use Rattle.num_q.proofs.FloorBounds.{shift_fine}
use Rattle.num_q.proofs.fixed.Q.shifted_into.Goals as goal

pub invariant_of-result : goal.invariant_of-result
invariant_of-result g c = record {
  in_range = (shift_fine c.args.self.raw g.row.B g.row.B2 g.row.K c.args.self.in_range c.args.self.width c.requires.room c.requires.some c.requires.width).below;
  width = c.requires.width;
}

pub returns : goal.returns
returns g c = (shift_fine c.args.self.raw g.row.B g.row.B2 g.row.K c.args.self.in_range c.args.self.width c.requires.room c.requires.some c.requires.width).same
