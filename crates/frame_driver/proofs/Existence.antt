-- There is a path of so many frames from all places.
use Rattle.std.proofs.Common.{◌≡◌, ℕ, zero, suc, ◌+◌, ◌≤◌, ℤ, List, [], ◌∷◌, length, ◌⊎◌, inl, inr, refl, ap, subst, arith}
use Rattle.list_laws.specs.Chains.{Follow}
use Rattle.space3.specs.declared.vectors.V3.{V3}
use Rattle.surface_mesh.specs.declared.setup.Setup.{Setup}
use Rattle.potential_sum.specs.Terms.{FrameTerms, terms_of}
use Rattle.line_search.specs.declared.step.Step.{Step}
use Rattle.line_search.specs.declared.end.FrameEnd.{FrameEnd}
use Rattle.line_search.specs.declared.end.FrameEnd.TheVariants as ends
use Rattle.frame_driver.specs.Frames.{Frame, IsFrame, IsAtRest, GoesOn, HasStep, EndsAt, last_after, places_after}
use Rattle.frame_driver.specs.Paths.{FramesFrom}
use Rattle.frame_driver.proofs.DecidedSteps.{dec_IsAtRest, step_or_none}

-- the rest of a frame from the places x after so many steps, with so many left of the budget
record Rest (setup : Setup) (tol : ℤ) (budget : ℕ) (terms : FrameTerms) (taken left : ℕ) (x : List V3) : Type 0 where
  steps : List Step
  end : FrameEnd
  few : length steps ≤ left
  follow : Follow places_after (GoesOn setup tol terms) x steps
  ends_at : EndsAt setup tol budget terms (taken + length steps) (last_after x steps) end

and_none : (n : ℕ) → n ≡ n + 0
and_none n = omega arith

-- either the frame ends here, or there is a step
rest_or_step : (setup : Setup) (tol : ℤ) (budget : ℕ) (terms : FrameTerms) (taken left : ℕ) (x : List V3) → Rest setup tol budget terms taken left x ⊎ (¬ IsAtRest setup tol terms x × HasStep setup terms x)
rest_or_step setup tol budget terms taken left x =
    elim (dec_IsAtRest setup tol terms x) [
      | yes rest ↦ inl (record { steps = []; end = ends.Converged taken; few = omega arith; follow = tt; ends_at = (and_none taken, rest) })
      | no busy ↦ elim (step_or_none setup terms x) [
        | inl step ↦ inr (busy, step)
        | inr stuck ↦ inl (record { steps = []; end = ends.Stalled taken; few = omega arith; follow = tt; ends_at = (and_none taken, busy, stuck) })
      ]
    ]

-- within what is left of the budget the frame ends
some_rest : (setup : Setup) (tol : ℤ) (budget : ℕ) (terms : FrameTerms) (left taken : ℕ) (x : List V3) → taken + left ≡ budget → Rest setup tol budget terms taken left x
some_rest setup tol budget terms zero taken x spent =
    elim (rest_or_step setup tol budget terms taken zero x) [
      | inl rest ↦ rest
      | inr goes ↦ record { steps = []; end = ends.Budget taken; few = omega arith; follow = tt; ends_at = (and_none taken, goes.0, goes.1, spent) }
    ]
some_rest setup tol budget terms (suc left) taken x spent =
    elim (rest_or_step setup tol budget terms taken (suc left) x) [
      | inl rest ↦ rest
      | inr goes ↦
          let step = goes.1.0 in
          let more = some_rest setup tol budget terms left (suc taken) step.places (omega arith) in
          record {
            steps = step ∷ more.steps;
            end = more.end;
            few = omega (arith, more.few);
            follow = (record { restless = goes.0; step_at = goes.1.1 }, more.follow);
            ends_at = subst (λ (n : ℕ). EndsAt setup tol budget terms n (last_after step.places more.steps) more.end) (one_more taken (length more.steps)) more.ends_at;
          }
    ]
  where
    one_more : (m n : ℕ) → suc m + n ≡ m + suc n
    one_more m n = omega arith

-- from all places there is a frame
pub frame_from : (setup : Setup) (tol : ℤ) (budget : ℕ) (now before : List V3) → (frame : Frame) × IsFrame setup tol budget now before frame
frame_from setup tol budget now before =
    let terms = terms_of setup now before in
    let rest = some_rest setup tol budget terms budget 0 now (start budget) in (
      record { steps = rest.steps; end = rest.end },
      record {
        few = rest.few;
        steps = rest.follow;
        ends = subst (λ (n : ℕ). EndsAt setup tol budget terms n (last_after now rest.steps) rest.end) (start (length rest.steps)) rest.ends_at;
      },
    )
  where
    start : (n : ℕ) → 0 + n ≡ n
    start n = omega arith

-- and a path of so many
pub path_from : (setup : Setup) (tol : ℤ) (budget : ℕ) (now before : List V3) (count : ℕ) → (frames : List Frame) × (length frames ≡ count) × FramesFrom setup tol budget now before frames
path_from setup tol budget now before zero = ([], refl, tt)
path_from setup tol budget now before (suc count) =
    let first = frame_from setup tol budget now before in
    let more = path_from setup tol budget (last_after now first.0.steps) now count in
    (first.0 ∷ more.0, ap suc more.1, (first.1, more.2))
