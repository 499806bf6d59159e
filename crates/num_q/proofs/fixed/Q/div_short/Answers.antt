use Rattle.num_q.proofs.Bounds.{scaled_fine}
use Rattle.num_q.proofs.FloorBounds.{short_floor_fine, short_scaled_fits}
use Rattle.num_q.proofs.fixed.Q.div_short.Goals as goal

pub overflow_mul-scaled : goal.overflow_mul-scaled
overflow_mul-scaled g c = (scaled_fine c.args.self.raw g.row.B g.row.S g.row.B3 c.args.self.in_range c.requires.sum c.requires.width).fits

pub overflow_cast-scaled-2 : goal.overflow_cast-scaled-2
overflow_cast-scaled-2 g c = short_scaled_fits c.args.self.raw g.row.B g.row.S c.args.self.in_range c.requires.left

pub invariant_of-result : goal.invariant_of-result
invariant_of-result g c = record {
  in_range = (short_floor_fine c.args.self.raw c.args.other.raw c.short.result c.short_floor.result g.row.B g.row.B2 g.row.S g.row.B3 c.args.self.in_range c.args.other.in_range
      c.requires.left c.requires.right c.requires.positive c.requires.sum c.requires.width c.short.ensures c.short_floor.ensures).below;
  width = c.requires.width;
}

pub returns : goal.returns
returns g c = (short_floor_fine c.args.self.raw c.args.other.raw c.short.result c.short_floor.result g.row.B g.row.B2 g.row.S g.row.B3 c.args.self.in_range c.args.other.in_range
    c.requires.left c.requires.right c.requires.positive c.requires.sum c.requires.width c.short.ensures c.short_floor.ensures).same
