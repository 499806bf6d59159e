-- The step at some places: what it is the first step of, that there is one at most, and what it keeps.
use Rattle.std.proofs.Common.{◌≡◌, ◌<ℤ◌, List, length, subst}
use Rattle.space3.specs.declared.vectors.V3.{V3}
use Rattle.sparse_cg.proofs.Decided.{one_newton_direction}
use Rattle.surface_mesh.specs.declared.setup.Setup.{Setup}
use Rattle.surface_mesh.specs.Safety.{IsSafeStep}
use Rattle.potential_sum.specs.Matrix.{matrix}
use Rattle.potential_sum.specs.Potential.{gradient, potential}
use Rattle.potential_sum.specs.Terms.{FrameTerms}
use Rattle.line_search.specs.declared.step.DirKind.{DirKind}
use Rattle.line_search.specs.declared.step.DirKind.TheVariants.{Jacobi, Newton}
use Rattle.line_search.specs.declared.step.Step.{Step}
use Rattle.line_search.specs.Accepted.{HasNoAccepted}
use Rattle.line_search.specs.Steps.{IsFirstStep}
use Rattle.line_search.proofs.OneStep.{one_first_step}
use Rattle.line_search.proofs.SafeSteps.{first_step_goes_down, first_step_is_safe}
use Rattle.frame_driver.specs.Directions.{HasNoNewtonStep, IsNewtonAt, jacobi_at}
use Rattle.frame_driver.specs.Frames.{IsStepAt, OfJacobi, OfNewton, HasNoStep, HasStep}

module _ (setup : Setup) (terms : FrameTerms) (x : List V3) where
  -- ---- which step it is
  pub newton_has : (direction : List V3) (step : Step) → IsNewtonAt setup terms x direction → IsFirstStep setup terms x Newton direction step → HasStep setup terms x
  newton_has direction step is_newton first = (step, OfNewton direction is_newton first)

  pub jacobi_has : (step : Step) → HasNoNewtonStep setup terms x → IsFirstStep setup terms x Jacobi (jacobi_at setup terms x) step → HasStep setup terms x
  jacobi_has step before first = (step, OfJacobi before first)

  -- where no halving of one Newton direction is accepted, there is no Newton step
  pub no_newton_step : (direction : List V3) → IsNewtonAt setup terms x direction → HasNoAccepted setup terms x direction → HasNoNewtonStep setup terms x
  no_newton_step direction is_newton none other is_other =
      subst (HasNoAccepted setup terms x)
      (one_newton_direction (length setup.mesh.numbers) (matrix setup terms x) (gradient setup terms x) direction other is_newton is_other) none

  -- the step is the first one of some direction
  pub record IsFirstOfSome (step : Step) : Type 0 where
    pub kind : DirKind
    pub direction : List V3
    pub first : IsFirstStep setup terms x kind direction step

  pub first_of_some : (step : Step) → IsStepAt setup terms x step → IsFirstOfSome step
  first_of_some step (OfNewton direction is_newton first) = record { kind = Newton; direction = direction; first = first }
  first_of_some step (OfJacobi before first) = record { kind = Jacobi; direction = jacobi_at setup terms x; first = first }

  -- ---- there is one at most
  -- a first step of a direction of which none is accepted can't be
  no_first : (kind : DirKind) (direction : List V3) (step : Step) → IsFirstStep setup terms x kind direction step → HasNoAccepted setup terms x direction → ⊥
  no_first kind direction step first none = none step.half first.first.few first.first.accepted

  pub one_step_at : (a b : Step) → IsStepAt setup terms x a → IsStepAt setup terms x b → a ≡ b
  one_step_at a b (OfNewton d d-is f) (OfNewton e e-is g) =
      let same = one_newton_direction (length setup.mesh.numbers) (matrix setup terms x) (gradient setup terms x) d e d-is e-is in
      one_first_step setup terms x Newton e a b (subst (λ (way : List V3). IsFirstStep setup terms x Newton way a) same f) g
  one_step_at a b (OfNewton d d-is f) (OfJacobi before g) = absurd (no_first Newton d a f (before d d-is))
  one_step_at a b (OfJacobi before f) (OfNewton e e-is g) = absurd (no_first Newton e b g (before e e-is))
  one_step_at a b (OfJacobi before f) (OfJacobi _ g) = one_first_step setup terms x Jacobi (jacobi_at setup terms x) a b f g

  -- where there is a step, it isn't so that there is none
  pub not_both : HasStep setup terms x → HasNoStep setup terms x → ⊥
  not_both (step, OfNewton direction is_newton first) none = no_first Newton direction step first (none.0 direction is_newton)
  not_both (step, OfJacobi no_newton first) none = no_first Jacobi (jacobi_at setup terms x) step first none.1

  -- ---- what it keeps
  pub step_is_safe : (step : Step) → IsStepAt setup terms x step → IsSafeStep setup x step.places
  step_is_safe step h =
      let some = first_of_some step h in
      first_step_is_safe setup terms x some.kind some.direction step some.first

  pub step_goes_down : (step : Step) → IsStepAt setup terms x step → potential setup terms step.places <ℤ potential setup terms x
  step_goes_down step h =
      let some = first_of_some step h in
      first_step_goes_down setup terms x some.kind some.direction step some.first

  -- its potentials
  pub step_lower : (step : Step) → IsStepAt setup terms x step → step.lower ≡ potential setup terms step.places
  step_lower step h = (first_of_some step h).first.lower
