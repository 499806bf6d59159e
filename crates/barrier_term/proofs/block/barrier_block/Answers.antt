use Rattle.std.proofs.Common.{◌∙◌, ap, pos}
use Rattle.std.specs.Prelude.{slice_index_or}
use Rattle.vec_q.specs.Rows.{rows_of}
use Rattle.barrier_term.specs.Blocks.{entries, lever, stiffness_at}
use Rattle.barrier_term.proofs.Activity.{passed_on}
use Rattle.barrier_term.proofs.block.barrier_block.Goals as goal

pub returns : goal.returns
returns c =
    let stiffness = c.stiffness_of-stiffness.ensures ∙ passed_on stiffness_at c.args.kappa c.args.dhat c.args.near.now c.ranges.kappa c.ranges.dhat in
    let first = c.lever-first.ensures ∙ (λ t. lever (c.way-way.ensures t) (slice_index_or (c.signed_weights-signed.ensures.value t) c.args.i (pos 0))) in
    let second = c.lever-second.ensures ∙ (λ t. lever (c.way-way.ensures t) (slice_index_or (c.signed_weights-signed.ensures.value t) c.args.j (pos 0))) in
    c.rows.ensures ∙ ap rows_of (c.entries.ensures ∙ (λ t. entries (stiffness t) (first t) (second t)))
