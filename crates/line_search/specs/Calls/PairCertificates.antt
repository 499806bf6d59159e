-- The certificates of pairs on a step, and how many decisions they take.
use Rattle.std.specs.Prelude.{◌≡◌, ◌⊎◌, ℕ, List}
use Rattle.space3.specs.declared.vectors.V3.{V3}
use Rattle.safe_motion.specs.declared.depth.TheConstants.{DEPTH}
use Rattle.safe_motion.specs.Certificates.{PairCertificate}
use Rattle.safe_motion.specs.Safety.{PartPair, node_moves}
use Rattle.space3.specs.Mesh.{HasNodes}
use Rattle.boundary.specs.Surface.{SurfaceLists}
use Rattle.pair_cert.specs.Tallies.{RisesAtMost}
use Rattle.surface_mesh.specs.declared.setup.Setup.{Setup}
use Rattle.line_search.specs.Accepted.{AreInReach}
use Rattle.line_search.specs.Decisions.{most_decisions}

-- the pair is certified to stay apart on the way from the places x to the places y
pub record IsApart (x y : List V3) (pair : PartPair) : Type 0 where
  pub certificate : PairCertificate DEPTH (node_moves x y pair.left) (node_moves x y pair.right)

-- each vertex has a place in both lists
pub record ArePlaced (s : SurfaceLists) (x y : List V3) : Type 0 where
  pub start : HasNodes x s.vertices
  pub end : HasNodes y s.vertices

-- a count stayed as it was; or the places y were in reach, and it rose by at most the decisions of the step
abbrev pub CountsStep : Setup → (x y : List V3) → (old new : ℕ) → Type 0
CountsStep setup x y old new = (new ≡ old) ⊎ (AreInReach setup y × RisesAtMost (most_decisions setup x y) old new)
