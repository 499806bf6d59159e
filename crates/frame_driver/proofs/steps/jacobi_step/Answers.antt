use Rattle.std.proofs.Common.{◌∙◌, List, IfOk, IfSome, IfNone, subst, sym}
use Rattle.space3.specs.declared.vectors.V3.{V3}
use Rattle.line_search.specs.Accepted.{HasNoAccepted}
use Rattle.line_search.specs.Steps.{IsFirstStep}
use Rattle.line_search.specs.declared.step.DirKind.TheVariants as kinds
use Rattle.frame_driver.proofs.StoredSystems.{jacobi_each, jacobi_is}
use Rattle.frame_driver.proofs.steps.jacobi_step.Goals as goal

pub step_along-requires-clause-each : goal.step_along-requires-clause-each
step_along-requires-clause-each c =
    jacobi_each c.args.setup.now c.args.terms.now.frame c.args.x.now c.args.rows.now c.args.slopes.now c.requires.rows c.requires.slopes c.jacobi.new.work c.jacobi.ensures

pub returns-clause-step : goal.returns-clause-step
returns-clause-step c =
    subst (λ (d : List V3). IfOk c.step_along.result (λ step. IfSome step (IsFirstStep c.args.setup.now c.args.terms.now.frame c.args.x.now kinds.Jacobi d)))
    (jacobi_is c.args.setup.now c.args.terms.now.frame c.args.x.now c.args.rows.now c.args.slopes.now c.requires.rows c.requires.slopes c.jacobi.new.work c.jacobi.ensures)
    c.step_along.ensures.first

pub returns-clause-none : goal.returns-clause-none
returns-clause-none c =
    subst (λ (d : List V3). IfOk c.step_along.result (λ step. IfNone step (HasNoAccepted c.args.setup.now c.args.terms.now.frame c.args.x.now d)))
    (jacobi_is c.args.setup.now c.args.terms.now.frame c.args.x.now c.args.rows.now c.args.slopes.now c.requires.rows c.requires.slopes c.jacobi.new.work c.jacobi.ensures)
    c.step_along.ensures.exhausted

pub returns-clause-room : goal.returns-clause-room
returns-clause-room c =
    jacobi_each c.args.setup.now c.args.terms.now.frame c.args.x.now c.args.rows.now c.args.slopes.now c.requires.rows c.requires.slopes c.jacobi.new.work c.jacobi.ensures
    ∙ sym c.requires.room
