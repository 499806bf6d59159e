use Rattle.std.proofs.Common.{◌∙◌, map, ap, arith}
use Rattle.list_laws.proofs.Fours.{four}
use Rattle.vec_q.specs.Rows.{components}
use Rattle.barrier_term.specs.Gradients.{barrier_gradient}
use Rattle.potential_sum.specs.Calls.Sums.{pulls_of}
use Rattle.potential_sum.proofs.HeldParts.{four_pulls, held_four, kept_dhat, kept_stiffness}
use Rattle.potential_sum.proofs.barriers.TwoParts.pulls.Goals as goal

pub returns : goal.returns
returns c =
    let numbers = c.args.numbers.now in
    let found = c.nearest.result in
    four c.pull_at.ensures c.pull_at-2.ensures c.pull_at-3.ensures c.pull_at-4.ensures
    ∙ four_pulls c.args.self.now.nodes (barrier_gradient numbers.kappa numbers.dhat found.near c.args.self.now.split found.points) c.barrier_gradient-pulls.result (held_four c.args.x.now c.args.self.now c.requires.close) (omega arith)
    (c.barrier_gradient-pulls.ensures.value ∙ (λ k. map components (barrier_gradient (kept_stiffness numbers c.requires.numbers k) (kept_dhat numbers c.requires.numbers k) found.near c.args.self.now.split found.points)))
    ∙ ap (pulls_of) (c.nearest.ensures.barrier numbers)
