-- The steps of a frame so far, their notes, and how it ends.
use Rattle.std.proofs.Common.{◌≡◌, ◌∙◌, ℕ, ◌+◌, ◌≤◌, ℤ, Bool, true, false, List, [], ◌∷◌, ◌++◌, refl, ap, sym, subst, arith, length-append}
use Rattle.std.proofs.lemmas.List.Sums.{fold-append}
use Rattle.list_laws.proofs.Chains.{Follow-push}
use Rattle.space3.specs.declared.vectors.V3.{V3}
use Rattle.surface_mesh.specs.declared.setup.Setup.{Setup}
use Rattle.potential_sum.specs.Terms.{FrameTerms}
use Rattle.line_search.specs.declared.step.Step.{Step}
use Rattle.line_search.specs.Poses.{IsPose}
use Rattle.line_search.specs.declared.end.FrameEnd.{FrameEnd}
use Rattle.line_search.specs.declared.end.FrameEnd.TheVariants as ends
use Rattle.frame_driver.specs.Frames.{GoesOn, HasNoStep, IsAtRest, places_after}
use Rattle.frame_driver.specs.Calls.Descents.{Descends, HasCome, LeadsOn, notes_of}

-- ---- notes
notes_of-append : (keep : Bool) (steps more : List Step) → notes_of keep steps ++ notes_of keep more ≡ notes_of keep (steps ++ more)
notes_of-append true steps more = refl
notes_of-append false steps more = refl

notes_of-none : (keep : Bool) → [] ≡ notes_of keep []
notes_of-none true = refl
notes_of-none false = refl

module _ (s : Setup) (tol : ℤ) (terms : FrameTerms) (keep : Bool) (now : List V3) where
  -- ---- the steps so far
  -- none
  pub HasCome-none : (x : List V3) → x ≡ now → IsPose s now → HasCome s tol terms keep now x [] 0
  HasCome-none x is pose = record {
    steps = [];
    follow = tt;
    counted = refl;
    last = sym is;
    noted = notes_of-none keep;
    pose = subst (IsPose s) (sym is) pose;
  }

  -- one more
  pub HasCome-push : (x : List V3) (notes : List Step) (step : Step) (taken : ℕ) (after : List V3) (more : List Step) → HasCome s tol terms keep now x notes taken → LeadsOn s tol terms x step
      → after ≡ step.places → more ≡ notes ++ notes_of keep (step ∷ []) → HasCome s tol terms keep now after more (taken + 1)
  HasCome-push x notes step taken after more come next after-is more-is = record {
    steps = come.steps ++ step ∷ [];
    follow = Follow-push places_after (GoesOn s tol terms) now come.steps step come.follow (subst (λ (a : List V3). GoesOn s tol terms a step) (sym come.last) next.goes_on);
    counted = length-append come.steps (step ∷ []) ∙ ap (λ n. n + 1) come.counted;
    last = fold-append places_after now come.steps (step ∷ []) ∙ sym after-is;
    noted = more-is ∙ ap (λ (l : List Step). l ++ notes_of keep (step ∷ [])) come.noted ∙ notes_of-append keep come.steps (step ∷ []);
    pose = subst (IsPose s) (sym after-is) next.pose;
  }

  module _ (x : List V3) (notes : List Step) where
    -- where the budget is reached, as many as that
    pub at_budget : (taken budget : ℕ) → taken ≤ budget → budget ≤ taken → HasCome s tol terms keep now x notes taken → HasCome s tol terms keep now x notes budget
    at_budget taken budget l m come =
        let e : taken ≡ budget = omega arith in
        subst (λ (n : ℕ). HasCome s tol terms keep now x notes n) e come

    -- ---- the ends
    pub rests : (budget taken : ℕ) → HasCome s tol terms keep now x notes taken → taken ≤ budget → IsAtRest s tol terms x → Descends s tol budget terms keep now x notes (ends.Converged taken)
    rests budget taken come few rest = record { taken = taken; come = come; few = few; ends = (refl, rest) }

    pub stalls : (budget taken : ℕ) → HasCome s tol terms keep now x notes taken → taken ≤ budget → ¬ IsAtRest s tol terms x × HasNoStep s terms x → Descends s tol budget terms keep now x notes (ends.Stalled taken)
    stalls budget taken come few found = record { taken = taken; come = come; few = few; ends = (refl, found.0, found.1) }

    pub spends : (budget : ℕ) (step : Step) → HasCome s tol terms keep now x notes budget → LeadsOn s tol terms x step → Descends s tol budget terms keep now x notes (ends.Budget budget)
    spends budget step come next =
        record { taken = budget; come = come; few = omega arith; ends = (refl, next.goes_on.restless, (step, next.goes_on.step_at), refl) }

-- by terms of the same frame
pub HasCome-by : (s : Setup) (tol : ℤ) (terms others : FrameTerms) (keep : Bool) (now x : List V3) (notes : List Step) (taken : ℕ) → terms ≡ others
    → HasCome s tol terms keep now x notes taken → HasCome s tol others keep now x notes taken
HasCome-by s tol terms others keep now x notes taken e h = subst (λ (frame : FrameTerms). HasCome s tol frame keep now x notes taken) e h

-- at the tolerance that was passed on, by terms of the same frame
pub descends_at : (s : Setup) (seen tol : ℤ) (budget : ℕ) (terms start : FrameTerms) (keep : Bool) (now x : List V3) (notes : List Step) (end : FrameEnd) → seen ≡ tol → terms ≡ start
    → Descends s seen budget terms keep now x notes end → Descends s tol budget start keep now x notes end
descends_at s seen tol budget terms start keep now x notes end e f h =
    subst (λ (frame : FrameTerms). Descends s tol budget frame keep now x notes end) f (subst (λ (z : ℤ). Descends s z budget terms keep now x notes end) e h)
