use Rattle.std.proofs.Common.{◌≡◌, ◌∙◌, ap, subst, sym, w64, arith, le_refl, rules, to_z, of_z}
use Rattle.std.specs.Int.{w128}
use Rattle.std.proofs.lemmas.Int.{to_z-of_z}
use Rattle.potential_sum.specs.Potential.{potential}
use Rattle.potential_sum.specs.Terms.{FrameTerms}
use Rattle.potential_sum.specs.Upright.{IsUpright}
use Rattle.line_search.proofs.SafeSteps.{pose_is_upright}
use Rattle.frame_driver.proofs.Descents.{HasCome-by, HasCome-push, at_budget, descends_at, rests, spends, stalls}
use Rattle.frame_driver.proofs.StepsAt.{step_lower}
use Rattle.frame_driver.proofs.frame.descend.Goals as goal

pub energy-requires-clause-pose : goal.energy-requires-clause-pose
energy-requires-clause-pose c = subst (IsUpright c.args.setup.now) (sym c.in_ok-x.ensures) (pose_is_upright c.args.setup.now c.args.now.now c.requires.ready.pose)

pub follow-requires-clause-pose : goal.follow-requires-clause-pose
follow-requires-clause-pose c =
    let next = rw c.in-Step.is at c.in_ok-next_at.ensures.next in
    subst (IsUpright c.args.setup.now) (sym c.in_ok-x-in-Step.ensures.places) (pose_is_upright c.args.setup.now c.in-Step.step.places next.pose)

pub loop-taken-preserved : goal.loop-taken-preserved
loop-taken-preserved c =
    let setup = c.args.setup.now in
    let terms = c.loop-taken.terms.frame in
    let x = c.loop-taken.x in
    let step = c.in-Step.step in
    let next = rw c.in-Step.is at c.in_ok-next_at.ensures.next in
    let after = c.in_ok-x-in-Step.ensures in
    let frame = c.follow.ensures.frame in
    let kept : to_z w128 (of_z w128 step.lower) ≡ step.lower = search rules in
    record {
      come = HasCome-by setup _ terms c.follow.new.self.frame c.args.keep c.args.now.now _ _ _ (sym frame)
          (HasCome-push setup _ terms c.args.keep c.args.now.now x c.loop-taken.notes.items step c.loop-taken.taken c.in_ok-x-in-Step.x c.places_after.new.notes.items c.loop-taken.invariant.come next after.places after.notes);
      upper = kept ∙ step_lower setup terms x step next.goes_on.step_at ∙ sym (ap (potential setup terms) after.places) ∙ sym (ap (λ (f : FrameTerms). potential setup f c.in_ok-x-in-Step.x) frame);
      frame = frame ∙ c.loop-taken.invariant.frame;
      stand = c.follow.ensures.stand;
      room = c.next_at.ensures.room ∙ c.loop-taken.invariant.room;
    }

pub returns-in-Converged-clause-descent : goal.returns-in-Converged-clause-descent
returns-in-Converged-clause-descent c =
    descends_at _ _ _ _ _ _ _ _ _ _ _ (to_z-of_z w64 c.args.tol c.ranges.tol) c.loop-taken.invariant.frame
    (rests _ _ _ _ _ _ _ c.args.budget _ c.loop-taken.invariant.come (omega (arith, c.loop-taken-test.true)) (rw c.in-Converged.is at c.in_ok-next_at.ensures.next))

pub returns-in-Stalled-clause-descent : goal.returns-in-Stalled-clause-descent
returns-in-Stalled-clause-descent c =
    descends_at _ _ _ _ _ _ _ _ _ _ _ (to_z-of_z w64 c.args.tol c.ranges.tol) c.loop-taken.invariant.frame
    (stalls _ _ _ _ _ _ _ c.args.budget _ c.loop-taken.invariant.come (omega (arith, c.loop-taken-test.true)) (rw c.in-Stalled.is at c.in_ok-next_at.ensures.next))

pub returns-in-Converged-2-clause-descent : goal.returns-in-Converged-2-clause-descent
returns-in-Converged-2-clause-descent c =
    let come = at_budget _ _ _ _ _ _ _ c.loop-taken.taken c.args.budget c.loop-taken.auto.taken-end c.loop-taken-test.false c.loop-taken.invariant.come in
    descends_at _ _ _ _ _ _ _ _ _ _ _ (to_z-of_z w64 c.args.tol c.ranges.tol) c.loop-taken.invariant.frame
    (rests _ _ _ _ _ _ _ c.args.budget c.args.budget come (le_refl c.args.budget) (rw c.in-Converged-2.is at c.in_ok-next_at-2.ensures.next))

pub returns-in-Stalled-2-clause-descent : goal.returns-in-Stalled-2-clause-descent
returns-in-Stalled-2-clause-descent c =
    let come = at_budget _ _ _ _ _ _ _ c.loop-taken.taken c.args.budget c.loop-taken.auto.taken-end c.loop-taken-test.false c.loop-taken.invariant.come in
    descends_at _ _ _ _ _ _ _ _ _ _ _ (to_z-of_z w64 c.args.tol c.ranges.tol) c.loop-taken.invariant.frame
    (stalls _ _ _ _ _ _ _ c.args.budget c.args.budget come (le_refl c.args.budget) (rw c.in-Stalled-2.is at c.in_ok-next_at-2.ensures.next))

pub returns-clause-descent : goal.returns-clause-descent
returns-clause-descent c =
    let come = at_budget _ _ _ _ _ _ _ c.loop-taken.taken c.args.budget c.loop-taken.auto.taken-end c.loop-taken-test.false c.loop-taken.invariant.come in
    descends_at _ _ _ _ _ _ _ _ _ _ _ (to_z-of_z w64 c.args.tol c.ranges.tol) c.loop-taken.invariant.frame
    (spends _ _ _ _ _ _ _ c.args.budget c.in-Step-2.field-0 come (rw c.in-Step-2.is at c.in_ok-next_at-2.ensures.next))
