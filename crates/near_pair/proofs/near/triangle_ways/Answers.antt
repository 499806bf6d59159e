use Rattle.std.proofs.Common.{[], ◌∷◌, arith}
use Rattle.space3.specs.Vectors.{origin}
use Rattle.near_pair.proofs.Reach.{towards}
use Rattle.near_pair.proofs.near.triangle_ways.Goals as goal

pub edge_between-requires : goal.edge_between-requires
edge_between-requires c = (omega arith, (towards (c.args.p ∷ []) c.args.t.now c.requires 0 0 origin origin (omega arith) (omega arith), omega arith))

pub edge_between-requires-2 : goal.edge_between-requires-2
edge_between-requires-2 c = (omega arith, (towards (c.args.p ∷ []) c.args.t.now c.requires 0 1 origin origin (omega arith) (omega arith), omega arith))

pub edge_between-requires-3 : goal.edge_between-requires-3
edge_between-requires-3 c = (omega arith, (towards (c.args.p ∷ []) c.args.t.now c.requires 0 2 origin origin (omega arith) (omega arith), omega arith))
