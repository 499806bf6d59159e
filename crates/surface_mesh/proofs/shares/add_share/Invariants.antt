use Rattle.std.proofs.Common.{◌≡◌, take}
use Rattle.surface_mesh.specs.Calls.Shares.{with_share}
use Rattle.surface_mesh.proofs.shares.add_share.Given as goal

abbrev pub invariant-loop-node : goal.invariant-loop-node
invariant-loop-node l = l.shares ≡ with_share l.share l.fn.shares (take l.node-index l.nodes)
