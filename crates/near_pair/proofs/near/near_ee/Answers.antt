use Rattle.std.proofs.Common.{arith}
use Rattle.near_pair.proofs.Answered.{nearest_of_lists_ee}
use Rattle.near_pair.proofs.near.near_ee.Goals as goal

pub returns-clause-value : goal.returns-clause-value
returns-clause-value c = (nearest_of_lists_ee c.args.a.now c.args.b.now c.nearest_of_edges.result (omega arith) (omega arith) (c.nearest_of_edges.ensures.answer _ _ _ _ c.edge_ways.ensures)).value

pub returns-clause-least : goal.returns-clause-least
returns-clause-least c = (nearest_of_lists_ee c.args.a.now c.args.b.now c.nearest_of_edges.result (omega arith) (omega arith) (c.nearest_of_edges.ensures.answer _ _ _ _ c.edge_ways.ensures)).least

pub returns-clause-weights : goal.returns-clause-weights
returns-clause-weights c = (nearest_of_lists_ee c.args.a.now c.args.b.now c.nearest_of_edges.result (omega arith) (omega arith) (c.nearest_of_edges.ensures.answer _ _ _ _ c.edge_ways.ensures)).weights
