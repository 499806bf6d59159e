use Rattle.std.proofs.Common.{◌∙◌, List, map, length, refl, ap, subst, sym}
use Rattle.std.specs.Prelude.{All}
use Rattle.std.specs.List.{range_with_len}
use Rattle.list_laws.specs.Sums.{total}
use Rattle.boundary.specs.declared.pairs.Pair.{Pair}
use Rattle.friction_lag.specs.declared.contacts.Contact.{Contact}
use Rattle.friction_lag.specs.Lagged.{lagged_in}
use Rattle.potential_sum.specs.declared.bodies.Body.{Body}
use Rattle.potential_sum.specs.Calls.Barriers.{barrier_at}
use Rattle.potential_sum.specs.Calls.Friction.{friction_at}
use Rattle.potential_sum.specs.Calls.Inertia.{energy_at}
use Rattle.potential_sum.specs.Calls.Kept.{MayStand, elastic_in}
use Rattle.potential_sum.specs.Contributions.{elastic_contribution}
use Rattle.potential_sum.specs.Terms.{KeptTerms}
use Rattle.potential_sum.proofs.CloseParts.{loose_are_close, loose_are_few}
use Rattle.potential_sum.proofs.Energies.{potential-kept}
use Rattle.potential_sum.proofs.FrameContacts.{few_held, held_may_slide}
use Rattle.potential_sum.proofs.KeptTerms.{all_five, elastic_kept, movers}
use Rattle.potential_sum.proofs.Standing.{bodies_may_stand, few_bodies}
use Rattle.potential_sum.proofs.terms.Terms.energy.Goals as goal

pub inertia_energy_of-inertia-requires-clause-nodes : goal.inertia_energy_of-inertia-requires-clause-nodes
inertia_energy_of-inertia-requires-clause-nodes c =
    movers c.args.setup.now c.args.self.now c.args.x.now c.items.result.now c.as_slice.result.now c.requires.built c.requires.sturdy c.requires.stand c.requires.pose
    c.items.ensures (c.as_slice.ensures.value ∙ ap (λ (t : KeptTerms). t.frame.targets) c.self.view_is)

pub elastic_energy-elastic-requires-clause-stand : goal.elastic_energy-elastic-requires-clause-stand
elastic_energy-elastic-requires-clause-stand c =
    subst (All (λ body. MayStand c.args.x.now (elastic_in body))) (sym c.as_slice-2.ensures.value)
    (bodies_may_stand c.args.setup.now c.args.x.now _ c.self.inside.bodies.items c.requires.built c.requires.pose (elastic_kept c.args.setup.now c.args.self.now _ (ap (λ (t : KeptTerms). t.elastic) c.self.view_is) c.requires.stand))

pub elastic_energy-elastic-requires-clause-few : goal.elastic_energy-elastic-requires-clause-few
elastic_energy-elastic-requires-clause-few c =
    few_bodies c.args.setup.now _ c.as_slice-2.result.now c.requires.built
    (elastic_kept c.args.setup.now c.args.self.now _ (ap (map elastic_in) c.as_slice-2.ensures.value ∙ ap (λ (t : KeptTerms). t.elastic) c.self.view_is) c.requires.stand)

pub barrier_energy_of-barriers-requires-clause-close : goal.barrier_energy_of-barriers-requires-clause-close
barrier_energy_of-barriers-requires-clause-close c = loose_are_close c.args.setup.now c.args.x.now c.items-2.result.now c.requires.built c.requires.pose (c.items-2.ensures ∙ c.in_ok-pairs.ensures)

pub barrier_energy_of-barriers-requires-clause-few : goal.barrier_energy_of-barriers-requires-clause-few
barrier_energy_of-barriers-requires-clause-few c = loose_are_few c.args.setup.now c.args.x.now c.items-2.result.now c.requires.built (c.items-2.ensures ∙ c.in_ok-pairs.ensures)

pub friction_energy_of-friction-requires-clause-slide : goal.friction_energy_of-friction-requires-clause-slide
friction_energy_of-friction-requires-clause-slide c =
    held_may_slide c.args.setup.now c.args.x.now c.as_slice-3.result.now c.args.self.now.frame.contacts c.requires.built c.requires.pose c.requires.stand.contacts (ap (map lagged_in) c.as_slice-3.ensures.value ∙ ap (λ (t : KeptTerms). t.frame.contacts) c.self.view_is)

pub friction_energy_of-friction-requires-clause-few : goal.friction_energy_of-friction-requires-clause-few
friction_energy_of-friction-requires-clause-few c =
    few_held c.as_slice-3.result.now c.args.self.now.frame.contacts c.requires.stand.few (ap (map lagged_in) c.as_slice-3.ensures.value ∙ ap (λ (t : KeptTerms). t.frame.contacts) c.self.view_is)

pub overflow_add-result-3 : goal.overflow_add-result-3
overflow_add-result-3 c =
    (all_five _ _ _ _ _ _ _ _ _ _ refl refl refl refl refl c.inertia_energy_of-inertia.ensures.small c.elastic_energy-elastic.ensures.small c.barrier_energy_of-barriers.ensures.small c.friction_energy_of-friction.ensures.small c.in_ok-held.ensures.small).fits_four

pub overflow_add-result-4 : goal.overflow_add-result-4
overflow_add-result-4 c =
    (all_five _ _ _ _ _ _ _ _ _ _ refl refl refl refl refl c.inertia_energy_of-inertia.ensures.small c.elastic_energy-elastic.ensures.small c.barrier_energy_of-barriers.ensures.small c.friction_energy_of-friction.ensures.small c.in_ok-held.ensures.small).fits_five

pub returns : goal.returns
returns c =
    let targets = c.as_slice.ensures.value ∙ ap (λ (t : KeptTerms). t.frame.targets) c.self.view_is in
    let kept = elastic_kept c.args.setup.now c.args.self.now _ (ap (λ (t : KeptTerms). t.elastic) c.self.view_is) c.requires.stand in
    (all_five _ _ _ _ _ _ _ _ _ _
    (c.inertia_energy_of-inertia.ensures.value ∙ (λ i. total (map (energy_at (c.items.ensures i) (targets i) c.args.x.now) (range_with_len 0 (length c.args.x.now)))))
    (c.elastic_energy-elastic.ensures.value ∙ ap (λ (bodies : List Body). total (map (λ body. (elastic_contribution c.args.x.now (elastic_in body)).energy) bodies)) c.as_slice-2.ensures.value)
    (c.barrier_energy_of-barriers.ensures.value ∙ ap (λ (pairs : List Pair). total (map (λ pair. (barrier_at c.args.setup.now c.args.x.now pair).energy) pairs)) c.items-2.ensures)
    (c.friction_energy_of-friction.ensures.value ∙ ap (λ (contacts : List Contact). total (map (λ contact. (friction_at c.args.setup.now.numbers c.args.x.now contact).energy) contacts)) c.as_slice-3.ensures.value)
    c.in_ok-held.ensures.value
    c.inertia_energy_of-inertia.ensures.small c.elastic_energy-elastic.ensures.small c.barrier_energy_of-barriers.ensures.small c.friction_energy_of-friction.ensures.small c.in_ok-held.ensures.small).sum
    ∙ potential-kept c.args.setup.now c.args.self.now.frame c.args.x.now c.self.inside.bodies.items c.in_ok-pairs.pairs c.self.inside.contacts.items c.requires.pose.each kept c.in_ok-pairs.ensures (ap (λ (t : KeptTerms). t.frame.contacts) c.self.view_is)
