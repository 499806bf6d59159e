use Rattle.std.proofs.Common.{◌≡◌, map, take}
use Rattle.ipc_top.specs.Numbered.{node_number}
use Rattle.ipc_top.proofs.numbered.node_numbers.Given as goal

abbrev pub invariant-loop-node : goal.invariant-loop-node
invariant-loop-node l = l.numbers.items ≡ map (node_number l.mesh) (take l.node-index l.nodes)
