use Rattle.std.proofs.Common.{◌≡◌, ◌∙◌, List, length, ap, subst, rules, w64, to_z, of_z}
use Rattle.space3.specs.declared.vectors.V3.{V3}
use Rattle.line_search.proofs.SafeSteps.{pose_is_upright}
use Rattle.frame_driver.specs.Sims.{SimState, Advances, state_of}
use Rattle.frame_driver.proofs.Advance.{advances, moved_on}
use Rattle.frame_driver.proofs.sim.Sim.frame.Goals as goal

pub open-requires-clause-pose : goal.open-requires-clause-pose
open-requires-clause-pose c = pose_is_upright c.self.inside.setup c.self.inside.places c.self.invariant.is_sim.pose

pub invariant_of-self-2 : goal.invariant_of-self-2
invariant_of-self-2 c =
    let kept = c.self.invariant in
    let before = c.in_ok-before.ensures in
    record {
      is_sim = record {
        built = kept.is_sim.built;
        sturdy = kept.is_sim.sturdy;
        pose = c.in_ok-places.ensures.descent.come.pose;
        each_before = ap (λ (l : List V3). length l) before.same ∙ kept.is_sim.pose.each;
        near = before.near;
      };
      room = c.descend.ensures.room ∙ kept.room;
    }

pub returns-clause-frame : goal.returns-clause-frame
returns-clause-frame c =
    let sim = c.self.inside in
    let old : SimState = state_of sim.setup sim.tol sim.budget sim.keep sim.places sim.before.items sim.notes.items in
    let tol-is : to_z w64 (of_z w64 sim.tol) ≡ sim.tol = search rules in
    subst (λ (s : SimState). Advances c.in_ok-places.end s (moved_on old c.in_ok-places.places c.in_ok-before.before.items c.in_ok-places.notes.items)) c.self.view_is
    (advances old _ _ c.deref.result.now c.in_ok-places.places c.in_ok-before.before.items c.in_ok-places.notes.items c.in_ok-places.end
    c.self.invariant.is_sim tol-is c.in_ok-terms.ensures.terms c.deref.ensures.value c.in_ok-before.ensures.same c.in_ok-places.ensures.descent)
