use Rattle.std.proofs.Common.{refl}
use Rattle.line_search.specs.Accepted.{HasNoAccepted}
use Rattle.frame_driver.specs.Directions.{HasNoNewtonStep}
use Rattle.frame_driver.proofs.StepsAt.{no_newton_step}
use Rattle.frame_driver.proofs.StoredSystems.{newton_is, none_weaker}
use Rattle.frame_driver.proofs.steps.newton_step.Goals as goal

pub returns-clause-none : goal.returns-clause-none
returns-clause-none c =
    let setup = c.args.setup.now in
    let terms = c.args.terms.now.frame in
    let x = c.args.x.now in
    let is_newton = newton_is setup terms x c.args.rows.now c.args.slopes.now c.requires.rows c.requires.slopes c.newton.new.work (c.if-not-newton.ensures.found refl) in
    none_weaker (HasNoAccepted setup terms x c.newton.new.work) (HasNoNewtonStep setup terms x)
    (λ none. no_newton_step setup terms x c.newton.new.work is_newton none) c.step_along.result c.step_along.ensures.exhausted
