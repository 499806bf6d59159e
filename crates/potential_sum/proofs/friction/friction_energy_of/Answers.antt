use Rattle.std.proofs.Common.{◌≡◌, ◌∙◌, ◌+◌, ℤ, ◌+ℤ◌, map, take, ap, sym, arith, to_z, of_z, get_or}
use Rattle.std.specs.Int.{w128}
use Rattle.std.proofs.lemmas.Int.{to_z-of_z}
use Rattle.std.proofs.lemmas.List.{map_more}
use Rattle.list_laws.specs.Sums.{total}
use Rattle.list_laws.proofs.Sums.{total-push}
use Rattle.friction_lag.specs.declared.contacts.Contact.{Contact}
use Rattle.friction_lag.specs.Lagged.{lagged_in}
use Rattle.potential_sum.specs.Calls.Friction.{friction_at}
use Rattle.potential_sum.proofs.Energies.{IsAdded, added, friction-small}
use Rattle.potential_sum.proofs.friction.friction_energy_of.Goals as goal

abbrev step : (c : goal.After-energy_of-sum) → Type 0
step c = IsAdded (map (λ contact. (friction_at c.args.numbers.now c.args.x.now contact).energy) (take c.loop-contact.contact-index c.args.contacts.now)) (map (λ contact. (friction_at c.args.numbers.now c.args.x.now contact).energy) (take (c.loop-contact.contact-index + 1) c.args.contacts.now)) c.loop-contact.contact-index (to_z w128 c.loop-contact.sum-bits) (to_z w128 (of_z w128 c.energy_of-sum.result))

stepped : (c : goal.After-energy_of-sum) → step c
stepped c =
    let f : Contact → ℤ = λ contact. (friction_at c.args.numbers.now c.args.x.now contact).energy in
    let i = c.loop-contact.contact-index in
    let next : total (map f (take (i + 1) c.args.contacts.now)) ≡ total (map f (take i c.args.contacts.now)) +ℤ f c.contact-item.result =
    ap total (map_more f c.args.contacts.now i c.contact-item.result c.loop-contact-test.true) ∙ total-push (map f (take i c.args.contacts.now)) (f (get_or c.args.contacts.now i c.contact-item.result)) ∙ ap (λ (contact : Contact). total (map f (take i c.args.contacts.now)) +ℤ f contact) (sym c.contact-item.is) in
    added (map f (take i c.args.contacts.now)) (map f (take (i + 1) c.args.contacts.now)) i (to_z w128 c.loop-contact.sum-bits) (to_z w128 (of_z w128 c.energy_of-sum.result)) (f c.contact-item.result) c.loop-contact.invariant.sum c.loop-contact.invariant.bound
    (to_z-of_z w128 c.energy_of-sum.result (record { sfits = c.energy_of-sum.type_inv }) ∙ c.energy_of-sum.ensures)
    (friction-small c.args.numbers.now c.args.x.now (lagged_in c.contact-item.result)) (omega (arith, c.requires.few, c.loop-contact-test.true)) next

pub overflow_add-sum : goal.overflow_add-sum
overflow_add-sum c = (stepped c).fits

pub loop-contact-preserved : goal.loop-contact-preserved
loop-contact-preserved c =
    let step = stepped c in record { sum = step.sum; bound = step.bound }
