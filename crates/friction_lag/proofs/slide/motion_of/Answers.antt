use Rattle.std.proofs.Common.{sym, ◌∙◌, subst, ◌^◌, arith}
use Rattle.space3.specs.Vectors.{Within, sum_of}
use Rattle.vec_q.specs.Widths.{IsBelow}
use Rattle.vec_q.proofs.Sizes.{below}
use Rattle.friction_lag.proofs.Motions.{sum_of_four, motion_bound, sum-of-four-is}
use Rattle.friction_lag.proofs.slide.motion_of.Goals as goal

pub narrowed_into-requires : goal.narrowed_into-requires
narrowed_into-requires c =
    let all = c.add_into-all.ensures ∙ (λ i. sum_of (c.weighted_motion-4.ensures i) ((c.add_into-three.ensures ∙ (λ j. sum_of (c.weighted_motion-3.ensures j) ((c.add_into-two.ensures ∙ (λ k. sum_of (c.weighted_motion.ensures k) (c.weighted_motion-2.ensures k))) j))) i)) in (
      omega arith,
      (
        omega arith,
        (
          subst (IsBelow 39) (sym all) (below (2 ^ 38) 39 (sum_of_four c.args.c.now.signed c.args.x.now c.args.c.now.from)
              (motion_bound c.args.c.now.signed c.args.x.now c.args.c.now.from (omega arith) (omega arith) (omega arith) c.args.c.now.contact.balanced c.requires c.args.c.now.contact.placed) (omega arith)),
          omega arith,
        ),
      ),
    )

pub returns-clause-value : goal.returns-clause-value
returns-clause-value c =
    let all = c.add_into-all.ensures ∙ (λ i. sum_of (c.weighted_motion-4.ensures i) ((c.add_into-three.ensures ∙ (λ j. sum_of (c.weighted_motion-3.ensures j) ((c.add_into-two.ensures ∙ (λ k. sum_of (c.weighted_motion.ensures k) (c.weighted_motion-2.ensures k))) j))) i)) in
    c.narrowed_into.ensures ∙ all ∙ sum-of-four-is c.args.c.now.signed c.args.x.now c.args.c.now.from (omega arith) (omega arith) (omega arith)

pub returns-clause-bound : goal.returns-clause-bound
returns-clause-bound c =
    let all = c.add_into-all.ensures ∙ (λ i. sum_of (c.weighted_motion-4.ensures i) ((c.add_into-three.ensures ∙ (λ j. sum_of (c.weighted_motion-3.ensures j) ((c.add_into-two.ensures ∙ (λ k. sum_of (c.weighted_motion.ensures k) (c.weighted_motion-2.ensures k))) j))) i)) in
    subst (Within (2 ^ 38)) (sym (c.narrowed_into.ensures ∙ all))
    (motion_bound c.args.c.now.signed c.args.x.now c.args.c.now.from (omega arith) (omega arith) (omega arith) c.args.c.now.contact.balanced c.requires c.args.c.now.contact.placed)
