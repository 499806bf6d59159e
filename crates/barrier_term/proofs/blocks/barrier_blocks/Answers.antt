use Rattle.std.proofs.Common.{◌≡◌, ◌∙◌, ℕ, [], ◌∷◌, map, pos, ap, sym, w64, to_z, of_z}
use Rattle.std.specs.Prelude.{slice_index_or}
use Rattle.nearest.specs.SignedWeights.{signed_sum, signed_weights}
use Rattle.barrier_term.specs.Barrier.{if_active}
use Rattle.barrier_term.specs.Blocks.{blocks_of, entries, lever, stiffness_at}
use Rattle.barrier_term.proofs.Activity.{passed_on}
use Rattle.barrier_term.proofs.NoBlocks.{no_entries}
use Rattle.barrier_term.proofs.blocks.barrier_blocks.Goals as goal

pub returns-in-Some-clause-some : goal.returns-in-Some-clause-some
returns-in-Some-clause-some c =
    let near = c.args.near.now in
    let signed = signed_weights c.args.split near.weights in
    let stiffness =
    c.stiffness_at.ensures ∙ sym (c.in-Some.ensures (stiffness_at (to_z w64 (of_z w64 c.args.kappa)))) ∙ passed_on stiffness_at c.args.kappa c.args.dhat near c.ranges.kappa c.ranges.dhat in
    c.active_blocks.ensures ∙ (λ t. map (blocks_of (stiffness t) (signed_sum signed c.args.x.now) signed) (0 ∷ 1 ∷ 2 ∷ 3 ∷ []))

pub returns-in-None-clause-none : goal.returns-in-None-clause-none
returns-in-None-clause-none c =
    let near = c.args.near.now in
    let signed = signed_weights c.args.split near.weights in
    let none : pos 0 ≡ if_active c.args.dhat near (stiffness_at c.args.kappa) =
    sym (c.in-None.ensures (stiffness_at (to_z w64 (of_z w64 c.args.kappa)))) ∙ passed_on stiffness_at c.args.kappa c.args.dhat near c.ranges.kappa c.ranges.dhat in
    λ i j.
    let lever_of = λ (k : ℕ). lever (signed_sum signed c.args.x.now) (slice_index_or signed k (pos 0)) in
    ap (λ z. entries z (lever_of i) (lever_of j)) (sym none) ∙ no_entries (lever_of i) (lever_of j)
