use Rattle.std.proofs.Common.{◌≡◌, ◌∙◌, ◌+◌, ℤ, ◌+ℤ◌, map, take, ap, sym, arith, to_z, of_z, get_or}
use Rattle.std.specs.Int.{w128}
use Rattle.std.proofs.lemmas.Int.{to_z-of_z}
use Rattle.std.proofs.lemmas.List.{map_more}
use Rattle.list_laws.specs.Sums.{total}
use Rattle.list_laws.proofs.Sums.{total-push}
use Rattle.potential_sum.specs.declared.bodies.Body.{Body}
use Rattle.potential_sum.specs.Calls.Kept.{elastic_in}
use Rattle.potential_sum.specs.Contributions.{elastic_contribution}
use Rattle.potential_sum.proofs.Energies.{IsAdded, added, elastic-small}
use Rattle.potential_sum.proofs.bodies.elastic_energy.Goals as goal

abbrev step : (c : goal.After-energy-sum) → Type 0
step c = IsAdded (map (λ body. (elastic_contribution c.args.x.now (elastic_in body)).energy) (take c.loop-body.body-index c.args.bodies.now)) (map (λ body. (elastic_contribution c.args.x.now (elastic_in body)).energy) (take (c.loop-body.body-index + 1) c.args.bodies.now)) c.loop-body.body-index (to_z w128 c.loop-body.sum-bits) (to_z w128 (of_z w128 c.energy-sum.result))

stepped : (c : goal.After-energy-sum) → step c
stepped c =
    let f : Body → ℤ = λ body. (elastic_contribution c.args.x.now (elastic_in body)).energy in
    let i = c.loop-body.body-index in
    let next : total (map f (take (i + 1) c.args.bodies.now)) ≡ total (map f (take i c.args.bodies.now)) +ℤ f c.body-item.result =
    ap total (map_more f c.args.bodies.now i c.body-item.result c.loop-body-test.true) ∙ total-push (map f (take i c.args.bodies.now)) (f (get_or c.args.bodies.now i c.body-item.result)) ∙ ap (λ (body : Body). total (map f (take i c.args.bodies.now)) +ℤ f body) (sym c.body-item.is) in
    added (map f (take i c.args.bodies.now)) (map f (take (i + 1) c.args.bodies.now)) i (to_z w128 c.loop-body.sum-bits) (to_z w128 (of_z w128 c.energy-sum.result)) (f c.body-item.result) c.loop-body.invariant.sum c.loop-body.invariant.bound
    (to_z-of_z w128 c.energy-sum.result (record { sfits = c.energy-sum.type_inv }) ∙ c.energy-sum.ensures)
    (elastic-small c.args.x.now (elastic_in c.body-item.result)) (omega (arith, c.requires.few, c.loop-body-test.true)) next

pub overflow_add-sum : goal.overflow_add-sum
overflow_add-sum c = (stepped c).fits

pub loop-body-preserved : goal.loop-body-preserved
loop-body-preserved c =
    let step = stepped c in record { sum = step.sum; bound = step.bound }
