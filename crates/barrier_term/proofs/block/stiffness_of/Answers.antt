use Rattle.std.proofs.Common.{sym, ◌∙◌, w64, to_z, of_z}
use Rattle.barrier_term.specs.Blocks.{stiffness_at}
use Rattle.barrier_term.proofs.Activity.{passed_on}
use Rattle.barrier_term.proofs.block.stiffness_of.Goals as goal

pub returns-in-Some : goal.returns-in-Some
returns-in-Some c =
    c.stiffness_at.ensures ∙ sym (c.in-Some.ensures (stiffness_at (to_z w64 (of_z w64 c.args.kappa)))) ∙ passed_on stiffness_at c.args.kappa c.args.dhat c.args.near.now c.ranges.kappa c.ranges.dhat

pub returns-in-None : goal.returns-in-None
returns-in-None c =
    c.of_raw.ensures ∙ sym (c.in-None.ensures (stiffness_at (to_z w64 (of_z w64 c.args.kappa)))) ∙ passed_on stiffness_at c.args.kappa c.args.dhat c.args.near.now c.ranges.kappa c.ranges.dhat
