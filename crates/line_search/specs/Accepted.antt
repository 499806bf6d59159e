-- Which halving of a direction is taken.
use Rattle.std.specs.Prelude.{◌≡◌, ◌<◌, ◌≤◌, ◌<ℤ◌, ℕ, List, All, Any}
use Rattle.space3.specs.declared.ways.TheConstants.{HALVING_LIMIT}
use Rattle.space3.specs.declared.vectors.V3.{V3}
use Rattle.space3.specs.Vectors.{origin}
use Rattle.space3.specs.Box.{IsInTheBox}
use Rattle.space3.specs.Moved.{halved, moved_by}
use Rattle.surface_mesh.specs.declared.setup.Setup.{Setup}
use Rattle.surface_mesh.specs.Safety.{IsCertifiedStep}
use Rattle.potential_sum.specs.Terms.{FrameTerms}
use Rattle.potential_sum.specs.Potential.{potential}
use Rattle.potential_sum.specs.Upright.{HasShortEdges}

-- a halving of a direction moves some node
abbrev pub MovesANode : (direction : List V3) → (half : ℕ) → Type 0
MovesANode direction half = Any (λ d. ¬ (halved half d ≡ origin)) direction

-- the places are in the box, and no edge is too long
pub record AreInReach (setup : Setup) (places : List V3) : Type 0 where
  pub in_box : All IsInTheBox places
  pub edges : All (λ tet. HasShortEdges places tet.nodes) setup.mesh.tets

-- A step from the places x to the places y is allowed: it stays in the box, no edge gets too long, each pair and each
-- tetrahedron has its certificate, and the potential gets lower.
pub record IsAllowed (setup : Setup) (terms : FrameTerms) (x y : List V3) : Type 0 where
  pub in_reach : AreInReach setup y
  pub certified : IsCertifiedStep setup x y
  pub lower : potential setup terms y <ℤ potential setup terms x

-- a halving of a direction at the places x is accepted: it moves some node, and the step is allowed
pub record IsAccepted (setup : Setup) (terms : FrameTerms) (x direction : List V3) (half : ℕ) : Type 0 where
  pub moves : MovesANode direction half
  pub allowed : IsAllowed setup terms x (moved_by x direction half)

-- the least accepted halving
pub record IsFirstAccepted (setup : Setup) (terms : FrameTerms) (x direction : List V3) (half : ℕ) : Type 0 where
  pub few : half ≤ HALVING_LIMIT
  pub accepted : IsAccepted setup terms x direction half
  pub least : (earlier : ℕ) → earlier < half → ¬ IsAccepted setup terms x direction earlier

-- no halving is accepted
abbrev pub HasNoAccepted : Setup → FrameTerms → (x direction : List V3) → Type 0
HasNoAccepted setup terms x direction =
    (half : ℕ) → half ≤ HALVING_LIMIT → ¬ IsAccepted setup terms x direction half
