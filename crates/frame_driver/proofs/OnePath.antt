-- There is only one path of so many frames.
use Rattle.std.proofs.Common.{◌≡◌, ℕ, ◌≤◌, ℤ, List, length, sym, ◌∙◌, subst, refl, arith, le_refl}
use Rattle.list_laws.proofs.Chains.{EndsBefore, one_chain}
use Rattle.space3.specs.declared.vectors.V3.{V3}
use Rattle.surface_mesh.specs.declared.setup.Setup.{Setup}
use Rattle.potential_sum.specs.Terms.{FrameTerms, terms_of}
use Rattle.line_search.specs.declared.step.Step.{Step}
use Rattle.line_search.specs.declared.end.FrameEnd.{FrameEnd}
use Rattle.line_search.specs.declared.end.FrameEnd.TheVariants as ends
use Rattle.frame_driver.specs.Frames.{Frame, IsFrame, GoesOn, EndsAt, last_after, places_after}
use Rattle.frame_driver.specs.Paths.{FramesFrom, after_frame}
use Rattle.frame_driver.proofs.StepsAt.{not_both, one_step_at}

-- at the same places after as many steps there is one end
one_end : (setup : Setup) (tol : ℤ) (budget : ℕ) (terms : FrameTerms) (taken : ℕ) (x : List V3) (a b : FrameEnd) → EndsAt setup tol budget terms taken x a → EndsAt setup tol budget terms taken x b → a ≡ b
one_end setup tol budget terms taken x (ends.Converged m) (ends.Converged n) f g = λ i. ends.Converged ((f.0 ∙ sym g.0) i)
one_end setup tol budget terms taken x (ends.Converged m) (ends.Stalled n) f g = absurd (g.1 f.1)
one_end setup tol budget terms taken x (ends.Converged m) (ends.Budget n) f g = absurd (g.1 f.1)
one_end setup tol budget terms taken x (ends.Stalled m) (ends.Converged n) f g = absurd (f.1 g.1)
one_end setup tol budget terms taken x (ends.Stalled m) (ends.Stalled n) f g = λ i. ends.Stalled ((f.0 ∙ sym g.0) i)
one_end setup tol budget terms taken x (ends.Stalled m) (ends.Budget n) f g = absurd (not_both setup terms x g.2 f.2)
one_end setup tol budget terms taken x (ends.Budget m) (ends.Converged n) f g = absurd (f.1 g.1)
one_end setup tol budget terms taken x (ends.Budget m) (ends.Stalled n) f g = absurd (not_both setup terms x f.2 g.2)
one_end setup tol budget terms taken x (ends.Budget m) (ends.Budget n) f g = λ i. ends.Budget ((f.0 ∙ sym g.0) i)

-- after an end comes no step, but where the budget is spent
end_is_last : (setup : Setup) (tol : ℤ) (budget : ℕ) (terms : FrameTerms) (taken : ℕ) (x : List V3) (end : FrameEnd) → EndsAt setup tol budget terms taken x end → (step : Step) → GoesOn setup tol terms x step → taken ≡ budget
end_is_last setup tol budget terms taken x (ends.Converged n) h step goes = absurd (goes.restless h.1)
end_is_last setup tol budget terms taken x (ends.Stalled n) h step goes = absurd (not_both setup terms x (step, goes.step_at) h.2)
end_is_last setup tol budget terms taken x (ends.Budget n) h step goes = h.3

-- from the same places there is one frame
pub one_frame : (setup : Setup) (tol : ℤ) (budget : ℕ) (now before : List V3) (a b : Frame) → IsFrame setup tol budget now before a → IsFrame setup tol budget now before b → a ≡ b
one_frame setup tol budget now before a b f g =
    let terms : FrameTerms = terms_of setup now before in
    let R : List V3 → Step → Type 0 = GoesOn setup tol terms in
    let last : (frame : Frame) → IsFrame setup tol budget now before frame → EndsBefore places_after R budget now frame.steps =
    λ frame h step goes. end_is_last setup tol budget terms (length frame.steps) (last_after now frame.steps) frame.end h.ends step goes in
    let steps : a.steps ≡ b.steps =
    one_chain places_after R (λ x s t p q. one_step_at setup terms x s t p.step_at q.step_at) budget now a.steps b.steps f.few g.few f.steps g.steps (last a f) (last b g) in
    let end : a.end ≡ b.end = one_end setup tol budget terms (length b.steps) (last_after now b.steps) a.end b.end
    (subst (λ (s : List Step). EndsAt setup tol budget terms (length s) (last_after now s) a.end) steps f.ends) g.ends in
    λ i. record { steps = steps i; end = end i }

-- and one path of as many frames
pub one_path_from : (setup : Setup) (tol : ℤ) (budget : ℕ) (now before : List V3) (fs gs : List Frame) → length fs ≡ length gs → FramesFrom setup tol budget now before fs → FramesFrom setup tol budget now before gs → fs ≡ gs
one_path_from setup tol budget now before fs gs e h k =
    one_chain after_frame (λ (start : List V3 × List V3) (frame : Frame). IsFrame setup tol budget start.0 start.1 frame)
    (λ start a b f g. one_frame setup tol budget start.0 start.1 a b f g) (length fs) (now, before) fs gs (le_refl (length fs)) (no_more (length fs) (length gs) e) h k
    (λ frame f. refl) (λ frame f. sym e)
  where
    no_more : (m n : ℕ) → m ≡ n → n ≤ m
    no_more m n e = omega arith
