-- One halving of a direction.
use Rattle.std.specs.Prelude.{◌≡◌, ◌⊎◌, ℕ, List}
use Rattle.space3.specs.declared.vectors.V3.{V3}
use Rattle.space3.specs.Vectors.{origin}
use Rattle.space3.specs.Moved.{halved, moved_by}
use Rattle.surface_mesh.specs.declared.setup.Setup.{Setup}
use Rattle.potential_sum.specs.Terms.{FrameTerms}
use Rattle.potential_sum.specs.Potential.{potential}
use Rattle.line_search.specs.declared.halvings.Halving.{Halving}
use Rattle.line_search.specs.Accepted.{IsFirstAccepted, MovesANode}
use Rattle.line_search.specs.Calls.PairCertificates.{CountsStep}

-- the halved direction moves its node
pub record Moves (half : ℕ) (direction : V3) : Type 0 where
  pub moves : ¬ (halved half direction ≡ origin)

-- where so many halvings of the direction lead, and the potential there
pub record IsHalving (setup : Setup) (terms : FrameTerms) (x direction : List V3) (halvings : ℕ) (halving : Halving) : Type 0 where
  pub half : halving.half ≡ halvings
  pub places : halving.places ≡ moved_by x direction halvings
  pub lower : halving.lower ≡ potential setup terms halving.places

-- the least accepted halving of the direction
pub record IsFirstHalving (setup : Setup) (terms : FrameTerms) (x direction : List V3) (halving : Halving) : Type 0 where
  pub first : IsFirstAccepted setup terms x direction halving.half
  pub places : halving.places ≡ moved_by x direction halving.half
  pub lower : halving.lower ≡ potential setup terms halving.places

-- a count stayed as it was; or the halving moves a node to places in reach, and it rose by at most the decisions of its
-- step
abbrev pub CountsHalving : Setup → (x direction : List V3) → (half : ℕ) → (old new : ℕ) → Type 0
CountsHalving setup x direction half old new =
    (new ≡ old) ⊎ (MovesANode direction half × CountsStep setup x (moved_by x direction half) old new)
