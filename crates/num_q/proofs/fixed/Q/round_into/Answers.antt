use Rattle.std.proofs.Common.{lit<, ◌∙◌, ◌*ℤ◌, ◌+ℤ◌}
use Rattle.num_q.proofs.Nearest.{doubled_below, round_below}
use Rattle.num_q.proofs.fixed.Q.round_into.Goals as goal

pub sum_within-sum-requires : goal.sum_within-sum-requires
sum_within-sum-requires g c = (
  lit< tt,
  rw (c.mul_into-double.ensures, c.of_raw-two.ensures, c.widened_into.ensures) (doubled_below c.args.self.raw c.args.other.raw g.row.B g.row.B2 c.args.self.in_range c.args.other.in_range c.requires.left c.requires.right),
)

pub narrowed_into-requires : goal.narrowed_into-requires
narrowed_into-requires g c = (
  lit< tt,
  (
    lit< tt,
    (
      round_below c.div_floor_into-quotient.result.raw c.sum_within-sum.result.raw c.mul_into-divisor.result.raw c.args.self.raw c.args.other.raw g.row.B g.row.B3 c.div_floor_into-quotient.ensures
          (c.sum_within-sum.ensures ∙ (λ i. (c.mul_into-double.ensures ∙ (λ j. c.of_raw-two.ensures j *ℤ c.args.self.raw)) i +ℤ c.widened_into.ensures i))
          (c.mul_into-divisor.ensures ∙ (λ j. c.of_raw-two.ensures j *ℤ c.args.other.raw)) c.requires.positive c.args.self.in_range c.requires.room,
      c.requires.width,
    ),
  ),
)
