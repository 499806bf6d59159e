use Rattle.std.proofs.Common.{◌≡◌, ◌∙◌, ℤ, pos, ◌≤ℤ◌, unsigned_abs, Bool, true, false, List, subst, w64}
use Rattle.std.specs.Prelude.{All, IsTrue, ◌↔◌}
use Rattle.std.proofs.lemmas.Int.{to_z-of_z}
use Rattle.line_search.proofs.SafeSteps.{pose_is_upright}
use Rattle.frame_driver.proofs.frame.next_at.Goals as goal

-- no number is above the tolerance
abbrev AllFlat : List ℤ → ℤ → Type 0
AllFlat slopes tol = All (λ slope. pos (unsigned_abs slope) ≤ℤ tol) slopes

-- the test of the slopes, at the tolerance that was passed on, is one of the gradient
tells : (slopes gradient : List ℤ) (seen tol : ℤ) (b : Bool) → slopes ≡ gradient → seen ≡ tol → (IsTrue b ↔ AllFlat slopes seen) → IsTrue b ↔ AllFlat gradient tol
tells slopes gradient seen tol b e f h = subst (λ (xs : List ℤ). IsTrue b ↔ AllFlat xs tol) e (subst (λ (z : ℤ). IsTrue b ↔ AllFlat slopes z) f h)

differ : (b : Bool) → b ≡ false → b ≡ true → ⊥
differ b e f = cc

pub returns-then-is_at_rest-clause-next : goal.returns-then-is_at_rest-clause-next
returns-then-is_at_rest-clause-next c =
    (tells _ _ _ c.args.tol _ (c.deref.ensures.value ∙ c.in_ok-gradient.ensures.gradient) (to_z-of_z w64 c.args.tol c.ranges.tol) c.is_at_rest.ensures).0 c.if-is_at_rest.true

pub returns-in-Some-clause-next : goal.returns-in-Some-clause-next
returns-in-Some-clause-next c = record {
  goes_on = record {
    restless = λ rest. differ c.is_at_rest.result c.if-is_at_rest.false
        ((tells _ _ _ c.args.tol _ (c.deref.ensures.value ∙ c.in_ok-gradient.ensures.gradient) (to_z-of_z w64 c.args.tol c.ranges.tol) c.is_at_rest.ensures).1 rest);
    step_at = rw c.in-Some.is at c.in_ok-step_at.ensures.step;
  };
  pose = rw c.in-Some.is at c.in_ok-step_at.ensures.pose;
}

pub gradient-requires-clause-pose : goal.gradient-requires-clause-pose
gradient-requires-clause-pose c = pose_is_upright c.args.setup.now c.args.x.now c.requires.ready.pose
