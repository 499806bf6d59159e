-- A direction has one step at most.
use Rattle.std.proofs.Common.{◌≡◌, ◌∙◌, ℕ, List, inl, inr, ap, sym}
use Rattle.std.proofs.lemmas.Bool.{cases_order}
use Rattle.space3.specs.declared.vectors.V3.{V3}
use Rattle.space3.specs.Moved.{moved_by}
use Rattle.surface_mesh.specs.declared.setup.Setup.{Setup}
use Rattle.potential_sum.specs.Terms.{FrameTerms}
use Rattle.potential_sum.specs.Potential.{potential}
use Rattle.line_search.specs.declared.step.DirKind.{DirKind}
use Rattle.line_search.specs.declared.step.Step.{Step}
use Rattle.line_search.specs.Accepted.{IsFirstAccepted}
use Rattle.line_search.specs.Steps.{IsFirstStep}

-- the least accepted halving is one
pub one_first : (setup : Setup) (terms : FrameTerms) (x direction : List V3) (a b : ℕ) → IsFirstAccepted setup terms x direction a → IsFirstAccepted setup terms x direction b → a ≡ b
one_first setup terms x direction a b f g =
    elim (cases_order a b) [
      | inl e ↦ e
      | inr order ↦ elim order [ inl l ↦ absurd (g.least a l f.accepted) | inr l ↦ absurd (f.least b l g.accepted) ]
    ]

-- and so is its step
pub one_first_step : (setup : Setup) (terms : FrameTerms) (x : List V3) (kind : DirKind) (direction : List V3) (a b : Step)
    → IsFirstStep setup terms x kind direction a → IsFirstStep setup terms x kind direction b → a ≡ b
one_first_step setup terms x kind direction a b f g =
    let half : a.half ≡ b.half = one_first setup terms x direction a.half b.half f.first g.first in
    let places : a.places ≡ b.places = f.places ∙ ap (moved_by x direction) half ∙ sym g.places in
    let lower : a.lower ≡ b.lower = f.lower ∙ ap (potential setup terms) places ∙ sym g.lower in
    λ i. record {
      kind = (f.kind ∙ sym g.kind) i;
      half = half i;
      direction = (f.direction ∙ sym g.direction) i;
      places = places i;
      lower = lower i;
      upper = (f.upper ∙ sym g.upper) i;
    }
