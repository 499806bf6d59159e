use Rattle.std.proofs.Common.{sym, ◌∙◌, w64, to_z, of_z}
use Rattle.barrier_term.specs.Barrier.{slope_at}
use Rattle.barrier_term.proofs.Activity.{passed_on}
use Rattle.barrier_term.proofs.energy.slope_number.Goals as goal

pub returns-in-Some-clause-value : goal.returns-in-Some-clause-value
returns-in-Some-clause-value c =
    c.slope_of.ensures.value ∙ sym (c.in-Some.ensures (slope_at (to_z w64 (of_z w64 c.args.kappa)))) ∙ passed_on slope_at c.args.kappa c.args.dhat c.args.near.now c.ranges.kappa c.ranges.dhat

pub returns-in-None-clause-value : goal.returns-in-None-clause-value
returns-in-None-clause-value c =
    c.of_raw.ensures ∙ sym (c.in-None.ensures (slope_at (to_z w64 (of_z w64 c.args.kappa)))) ∙ passed_on slope_at c.args.kappa c.args.dhat c.args.near.now c.ranges.kappa c.ranges.dhat
