use Rattle.std.proofs.Common.{◌≡◌, ◌∙◌, ◌+◌, ℤ, ◌+ℤ◌, map, take, ap, arith, to_z, of_z, get_or}
use Rattle.std.specs.Int.{w128}
use Rattle.std.proofs.lemmas.Int.{to_z-of_z}
use Rattle.std.proofs.lemmas.List.{map_more}
use Rattle.list_laws.specs.Sums.{total}
use Rattle.list_laws.proofs.Sums.{total-push}
use Rattle.safe_motion.specs.Safety.{PartPair}
use Rattle.boundary.specs.declared.pairs.Pair.{Pair}
use Rattle.boundary.specs.declared.pairs.PairKind.TheVariants as kinds
use Rattle.boundary.specs.Pairs.{part_pair}
use Rattle.potential_sum.specs.Calls.Barriers.{barrier_at}
use Rattle.potential_sum.specs.Contributions.{barrier_contribution}
use Rattle.potential_sum.proofs.Energies.{IsAdded, added, barrier-small}
use Rattle.potential_sum.proofs.HeldParts.{held_pair}
use Rattle.potential_sum.proofs.barriers.barrier_energy_of.Goals as goal
use Rattle.potential_sum.proofs.barriers.barrier_energy_of.Goals.{After-energy-sum}

abbrev step : (c : After-energy-sum) → Type 0
step c = IsAdded (map (λ pair. (barrier_at c.args.setup.now c.args.x.now pair).energy) (take c.loop-pair.pair-index c.args.pairs.now)) (map (λ pair. (barrier_at c.args.setup.now c.args.x.now pair).energy) (take (c.loop-pair.pair-index + 1) c.args.pairs.now)) c.loop-pair.pair-index (to_z w128 c.loop-pair.sum-bits) (to_z w128 (of_z w128 c.energy-sum.result))

stepped : (c : After-energy-sum) → step c
stepped c =
    let f : Pair → ℤ = λ pair. (barrier_at c.args.setup.now c.args.x.now pair).energy in
    let i = c.loop-pair.pair-index in
    let none : Pair = record { kind = kinds.VE; a = 0; b = 0 } in
    let pair : Pair = get_or c.args.pairs.now i none in
    let next : total (map f (take (i + 1) c.args.pairs.now)) ≡ total (map f (take i c.args.pairs.now)) +ℤ f pair =
    ap total (map_more f c.args.pairs.now i none c.loop-pair-test.true) ∙ total-push (map f (take i c.args.pairs.now)) (f pair) in
    added (map f (take i c.args.pairs.now)) (map f (take (i + 1) c.args.pairs.now)) i (to_z w128 c.loop-pair.sum-bits) (to_z w128 (of_z w128 c.energy-sum.result)) (f pair) c.loop-pair.invariant.sum c.loop-pair.invariant.bound
    (to_z-of_z w128 c.energy-sum.result (record { sfits = c.energy-sum.type_inv }) ∙ c.energy-sum.ensures ∙ ap (λ (parts : PartPair). (barrier_contribution c.args.setup.now.numbers c.args.x.now parts).energy) c.parts_of.ensures)
    (barrier-small c.args.setup.now.numbers c.args.x.now (part_pair c.args.setup.now.surface pair)) (omega (arith, c.requires.few, c.loop-pair-test.true)) next

pub energy-sum-requires-clause-close : goal.energy-sum-requires-clause-close
energy-sum-requires-clause-close c = held_pair c.args.setup.now c.args.x.now c.args.pairs.now c.parts_of.result c.loop-pair.pair-index _ c.requires.close c.loop-pair-test.true c.parts_of.ensures

pub overflow_add-sum : goal.overflow_add-sum
overflow_add-sum c = (stepped c).fits

pub loop-pair-preserved : goal.loop-pair-preserved
loop-pair-preserved c =
    let step = stepped c in record { sum = step.sum; bound = step.bound }
