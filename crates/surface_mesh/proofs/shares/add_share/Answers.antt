use Rattle.std.proofs.Common.{slice_index_or}
use Rattle.surface_mesh.proofs.GivenShares.{light_at}
use Rattle.surface_mesh.proofs.shares.add_share.Goals as goal

pub plus-requires-clause-left : goal.plus-requires-clause-left
plus-requires-clause-left c = light_at c.args.share c.args.shares.now c.args.nodes.now c.loop-node.shares c.loop-node.node-index (slice_index_or c.args.nodes.now c.loop-node.node-index 0) c.requires.few c.requires.share c.requires.small c.loop-node.invariant
