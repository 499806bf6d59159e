-- The steps of a frame lead a simulation from one state to the next.
use Rattle.std.proofs.Common.{◌≡◌, ◌∙◌, ℕ, ◌≤◌, ℤ, List, refl, ap, sym, subst}
use Rattle.space3.specs.declared.vectors.V3.{V3}
use Rattle.surface_mesh.proofs.SetupFacts.{fixed_length}
use Rattle.potential_sum.specs.Terms.{FrameTerms, terms_of}
use Rattle.line_search.specs.declared.step.Step.{Step}
use Rattle.line_search.specs.declared.end.FrameEnd.{FrameEnd}
use Rattle.frame_driver.specs.Frames.{Frame, IsFrame, EndsAt, last_after}
use Rattle.frame_driver.specs.Calls.Descents.{Descends}
use Rattle.frame_driver.specs.Sims.{SimState, Advances, IsSim, state_of}
use Rattle.frame_driver.proofs.DownhillPaths.{frame_goes_down}
use Rattle.frame_driver.proofs.HeldNodes.{frame_holds}
use Rattle.frame_driver.proofs.SafePaths.{frame_is_safe}

-- the state with these places now and before, and these notes
abbrev pub moved_on : SimState → (places before : List V3) → (notes : List Step) → SimState
moved_on sim places before notes = state_of sim.setup sim.tol sim.budget sim.keep places before notes

-- the steps ended so
abbrev pub DescendsFrom : SimState → (last : List V3) (notes : List Step) (end : FrameEnd) → Type 0
DescendsFrom old last notes end =
    Descends old.setup old.tol old.budget (terms_of old.setup old.places old.before) old.keep old.places last notes end

-- steps that ended are a frame
descent_is_frame : (old : SimState) (last : List V3) (notes : List Step) (end : FrameEnd) (descent : DescendsFrom old last notes end)
    → IsFrame old.setup old.tol old.budget old.places old.before (record { steps = descent.come.steps; end = end })
descent_is_frame old last notes end descent =
    let terms : FrameTerms = terms_of old.setup old.places old.before in
    let steps : List Step = descent.come.steps in
    record {
      few = subst (λ (n : ℕ). n ≤ old.budget) (sym descent.come.counted) descent.few;
      steps = descent.come.follow;
      ends = subst (λ (n : ℕ). EndsAt old.setup old.tol old.budget terms n (last_after old.places steps) end) (sym descent.come.counted)
          (subst (λ (x : List V3). EndsAt old.setup old.tol old.budget terms descent.taken x end) (sym descent.come.last) descent.ends);
    }

-- which leads to its last places
descent_advances : (old : SimState) (last : List V3) (notes : List Step) (end : FrameEnd)
    → IsSim old
    → DescendsFrom old last notes end
    → Advances end old (moved_on old last old.places notes)
descent_advances old last notes end start descent =
    let steps : List Step = descent.come.steps in
    let made : Frame = record { steps = steps; end = end } in
    let is = descent_is_frame old last notes end descent in
    record {
      steps = steps;
      frame = is;
      places = sym descent.come.last;
      before = refl;
      setup = refl;
      tol = refl;
      budget = refl;
      keep = refl;
      notes = descent.come.noted;
      safe = frame_is_safe old.setup old.tol old.budget old.places old.before made start.pose.safe is;
      downhill = frame_goes_down old.setup old.tol old.budget old.places old.before made is;
      held = frame_holds old.setup old.tol old.budget old.places old.before made (fixed_length old.setup start.built) is;
    }

-- the same with what the code passes on
pub advances : (old : SimState) (seen : ℤ) (terms : FrameTerms) (slice last list : List V3) (notes : List Step) (end : FrameEnd)
    → IsSim old → seen ≡ old.tol → terms ≡ terms_of old.setup old.places slice → slice ≡ old.before → list ≡ old.places
    → Descends old.setup seen old.budget terms old.keep old.places last notes end
    → Advances end old (moved_on old last list notes)
advances old seen terms slice last list notes end start tol-is terms-are slice-is list-is descent =
    let here : DescendsFrom old last notes end =
    subst (λ (z : ℤ). Descends old.setup z old.budget (terms_of old.setup old.places old.before) old.keep old.places last notes end) tol-is
    (subst (λ (t : FrameTerms). Descends old.setup seen old.budget t old.keep old.places last notes end) (terms-are ∙ ap (λ (b : List V3). terms_of old.setup old.places b) slice-is) descent) in
    subst (λ (l : List V3). Advances end old (moved_on old last l notes)) (sym list-is) (descent_advances old last notes end start here)
