use Rattle.std.proofs.Common.{arith}
use Rattle.space3.specs.Vectors.{origin}
use Rattle.near_pair.proofs.Reach.{towards, away}
use Rattle.near_pair.proofs.near.edge_ways.Goals as goal

pub edge_between-requires-3 : goal.edge_between-requires-3
edge_between-requires-3 c = (omega arith, (towards c.args.a.now c.args.b.now c.requires 0 0 origin origin (omega arith) (omega arith), omega arith))

pub edge_between-requires-4 : goal.edge_between-requires-4
edge_between-requires-4 c = (omega arith, (towards c.args.a.now c.args.b.now c.requires 1 0 origin origin (omega arith) (omega arith), omega arith))

pub edge_between-requires-5 : goal.edge_between-requires-5
edge_between-requires-5 c = (omega arith, (towards c.args.a.now c.args.b.now c.requires 0 1 origin origin (omega arith) (omega arith), omega arith))

pub edge_between-requires-6 : goal.edge_between-requires-6
edge_between-requires-6 c = (omega arith, (towards c.args.a.now c.args.b.now c.requires 1 1 origin origin (omega arith) (omega arith), omega arith))

pub edge_between-requires-7 : goal.edge_between-requires-7
edge_between-requires-7 c = (omega arith, (away c.args.a.now c.args.b.now c.requires 0 0 origin origin (omega arith) (omega arith), omega arith))

pub edge_between-requires-8 : goal.edge_between-requires-8
edge_between-requires-8 c = (omega arith, (away c.args.a.now c.args.b.now c.requires 0 1 origin origin (omega arith) (omega arith), omega arith))
