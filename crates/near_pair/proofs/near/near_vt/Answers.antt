use Rattle.std.proofs.Common.{arith}
use Rattle.near_pair.proofs.Answered.{nearest_of_lists_vt}
use Rattle.near_pair.proofs.near.near_vt.Goals as goal

pub returns-clause-value : goal.returns-clause-value
returns-clause-value c = (nearest_of_lists_vt c.args.p c.args.t.now c.nearest_of_triangle.result (omega arith) (c.nearest_of_triangle.ensures.answer _ _ _ _ c.triangle_ways.ensures)).value

pub returns-clause-least : goal.returns-clause-least
returns-clause-least c = (nearest_of_lists_vt c.args.p c.args.t.now c.nearest_of_triangle.result (omega arith) (c.nearest_of_triangle.ensures.answer _ _ _ _ c.triangle_ways.ensures)).least

pub returns-clause-weights : goal.returns-clause-weights
returns-clause-weights c = (nearest_of_lists_vt c.args.p c.args.t.now c.nearest_of_triangle.result (omega arith) (c.nearest_of_triangle.ensures.answer _ _ _ _ c.triangle_ways.ensures)).weights
