use Rattle.std.proofs.Common.{◌∙◌, ℕ, ◌+◌, ℤ, pos, map, get_or, arith, to_z, of_z}
use Rattle.std.specs.Int.{w128}
use Rattle.std.specs.List.{range_with_len}
use Rattle.std.proofs.lemmas.Int.{to_z-of_z}
use Rattle.space3.specs.Mesh.{place_of}
use Rattle.list_laws.proofs.Sums.{total_more}
use Rattle.potential_sum.specs.Calls.Inertia.{energy_at}
use Rattle.potential_sum.proofs.Energies.{IsAdded, added, inertia-small}
use Rattle.potential_sum.proofs.inertia.inertia_energy_of.Goals as goal

abbrev step : (c : goal.After-node_energy-sum) → Type 0
step c = IsAdded (map (energy_at c.args.masses.now c.args.targets.now c.args.x.now) (range_with_len 0 c.loop-node.node)) (map (energy_at c.args.masses.now c.args.targets.now c.args.x.now) (range_with_len 0 (c.loop-node.node + 1))) c.loop-node.node (to_z w128 c.loop-node.sum-bits) (to_z w128 (of_z w128 c.node_energy-sum.result))

stepped : (c : goal.After-node_energy-sum) → step c
stepped c =
    let f : ℕ → ℤ = energy_at c.args.masses.now c.args.targets.now c.args.x.now in
    let i = c.loop-node.node in
    added (map f (range_with_len 0 i)) (map f (range_with_len 0 (i + 1))) i (to_z w128 c.loop-node.sum-bits) (to_z w128 (of_z w128 c.node_energy-sum.result)) (f i) c.loop-node.invariant.sum c.loop-node.invariant.bound
    (to_z-of_z w128 c.node_energy-sum.result (record { sfits = c.node_energy-sum.type_inv }) ∙ c.node_energy-sum.ensures)
    (inertia-small (get_or c.args.masses.now i (pos 0)) (place_of c.args.x.now i) (place_of c.args.targets.now i)) (omega (arith, c.requires.few, c.loop-node-test.true)) (total_more f i)

pub overflow_add-sum : goal.overflow_add-sum
overflow_add-sum c = (stepped c).fits

pub loop-node-preserved : goal.loop-node-preserved
loop-node-preserved c =
    let step = stepped c in record { sum = step.sum; bound = step.bound }
