use Rattle.std.proofs.Common.{◌≡◌, ◌∙◌, Bool, List, map, ap, subst, sym}
use Rattle.std.specs.Prelude.{All}
use Rattle.block_rows.specs.Stored.{table_of}
use Rattle.block_rows.specs.Tables.{cut_table}
use Rattle.block_rows.proofs.FreeTables.{cut_of_free}
use Rattle.friction_lag.specs.Lagged.{lagged_in}
use Rattle.surface_mesh.proofs.SetupFacts.{fixed_length, mass_length}
use Rattle.potential_sum.specs.Calls.Kept.{MayStand, elastic_in}
use Rattle.potential_sum.specs.Terms.{KeptTerms}
use Rattle.potential_sum.proofs.CloseParts.{loose_are_close, loose_are_few}
use Rattle.potential_sum.proofs.FrameContacts.{held_may_slide}
use Rattle.potential_sum.proofs.FrameMatrices.{stiffness-kept}
use Rattle.potential_sum.proofs.KeptTerms.{elastic_kept}
use Rattle.potential_sum.proofs.Standing.{bodies_may_stand, few_bodies}
use Rattle.potential_sum.proofs.terms.Terms.matrix.Goals as goal

pub block_sums-requires-clause-each_mass : goal.block_sums-requires-clause-each_mass
block_sums-requires-clause-each_mass c = mass_length c.args.setup.now c.requires.built ∙ sym c.requires.pose.each

pub block_sums-requires-clause-each_flag : goal.block_sums-requires-clause-each_flag
block_sums-requires-clause-each_flag c = fixed_length c.args.setup.now c.requires.built ∙ sym c.requires.pose.each

pub block_sums-requires-clause-few_bodies : goal.block_sums-requires-clause-few_bodies
block_sums-requires-clause-few_bodies c =
    few_bodies c.args.setup.now _ c.as_slice.result.now c.requires.built
    (elastic_kept c.args.setup.now c.args.self.now _ (ap (map elastic_in) c.as_slice.ensures.value ∙ ap (λ (t : KeptTerms). t.elastic) c.self.view_is) c.requires.stand)

pub block_sums-requires-clause-few_pairs : goal.block_sums-requires-clause-few_pairs
block_sums-requires-clause-few_pairs c = loose_are_few c.args.setup.now c.args.x.now c.items.result.now c.requires.built (c.items.ensures ∙ c.in_ok-pairs.ensures)

pub block_sums-requires-clause-stand : goal.block_sums-requires-clause-stand
block_sums-requires-clause-stand c =
    subst (All (λ body. MayStand c.args.x.now (elastic_in body))) (sym c.as_slice.ensures.value)
    (bodies_may_stand c.args.setup.now c.args.x.now _ c.self.inside.bodies.items c.requires.built c.requires.pose (elastic_kept c.args.setup.now c.args.self.now _ (ap (λ (t : KeptTerms). t.elastic) c.self.view_is) c.requires.stand))

pub block_sums-requires-clause-close : goal.block_sums-requires-clause-close
block_sums-requires-clause-close c = loose_are_close c.args.setup.now c.args.x.now c.items.result.now c.requires.built c.requires.pose (c.items.ensures ∙ c.in_ok-pairs.ensures)

pub block_sums-requires-clause-slide : goal.block_sums-requires-clause-slide
block_sums-requires-clause-slide c =
    held_may_slide c.args.setup.now c.args.x.now c.as_slice-2.result.now c.args.self.now.frame.contacts c.requires.built c.requires.pose c.requires.stand.contacts
    (ap (map lagged_in) c.as_slice-2.ensures.value ∙ ap (λ (t : KeptTerms). t.frame.contacts) c.self.view_is)

pub returns-clause-table : goal.returns-clause-table
returns-clause-table c =
    let setup = c.args.setup.now in
    let bodies = c.as_slice.result.now in
    let contacts = c.as_slice-2.result.now in
    let kept = elastic_kept setup c.args.self.now _ (ap (map elastic_in) c.as_slice.ensures.value ∙ ap (λ (t : KeptTerms). t.elastic) c.self.view_is) c.requires.stand in
    let lagged : map lagged_in contacts ≡ c.args.self.now.frame.contacts = ap (map lagged_in) c.as_slice-2.ensures.value ∙ ap (λ (t : KeptTerms). t.frame.contacts) c.self.view_is in
    let sums = table_of c.in_ok-sums.sums.rows in
    c.in_ok-rows.ensures.table
    ∙ ap (λ (fixed : List Bool). cut_table fixed sums) c.in_ok-sums.ensures.fixed
    ∙ sym (cut_of_free setup.fixed sums)
    ∙ ap (cut_table setup.fixed) (c.in_ok-sums.ensures.table ∙ stiffness-kept setup c.args.self.now.frame c.args.x.now bodies c.items.result.now contacts c.requires.pose.each kept (c.items.ensures ∙ c.in_ok-pairs.ensures) lagged)
    ∙ cut_of_free setup.fixed _
