use Rattle.line_search.proofs.SafeSteps.{pose_is_upright}
use Rattle.frame_driver.proofs.StoredSystems.{newton_step_is}
use Rattle.frame_driver.proofs.steps.step_at.Goals as goal

pub matrix-requires-clause-pose : goal.matrix-requires-clause-pose
matrix-requires-clause-pose c = pose_is_upright c.args.setup.now c.args.x.now c.requires.ready.pose

pub returns-in-Some-clause-step : goal.returns-in-Some-clause-step
returns-in-Some-clause-step c =
    newton_step_is c.args.setup.now c.args.terms.now.frame c.args.x.now c.in-Some.step (rw c.in-Some.is at c.in_ok-found.ensures.step)
