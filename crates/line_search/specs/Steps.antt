-- The step of a direction.
use Rattle.std.specs.Prelude.{◌≡◌, List, length, All}
use Rattle.space3.specs.declared.ways.TheConstants.{DIRECTION_LIMIT}
use Rattle.space3.specs.declared.vectors.V3.{V3}
use Rattle.space3.specs.Vectors.{Within}
use Rattle.space3.specs.Moved.{moved_by}
use Rattle.surface_mesh.specs.declared.setup.Setup.{Setup}
use Rattle.surface_mesh.specs.Setup.{IsSetup}
use Rattle.surface_mesh.specs.Sturdy.{IsSturdy}
use Rattle.potential_sum.specs.Terms.{FrameTerms, KeptTerms, StandFor}
use Rattle.potential_sum.specs.Potential.{potential}
use Rattle.line_search.specs.declared.step.DirKind.{DirKind}
use Rattle.line_search.specs.declared.step.Step.{Step}
use Rattle.line_search.specs.Accepted.{IsFirstAccepted}
use Rattle.line_search.specs.Poses.{IsPose}

-- bodies that are ready to go on from the places x: built and sturdy, with terms that stand for them, at a pose
pub record AreReady (setup : Setup) (terms : KeptTerms) (x : List V3) : Type 0 where
  pub built : IsSetup setup
  pub sturdy : IsSturdy setup
  pub stand : StandFor setup terms
  pub pose : IsPose setup x

-- a direction: one vector for each of the places x, each component below 2^21 in absolute value
pub record IsDirection (x direction : List V3) : Type 0 where
  pub each : length direction ≡ length x
  pub short : All (Within DIRECTION_LIMIT) direction

-- the step of the least accepted halving of a direction of this method, with the potentials before and after
pub record IsFirstStep (setup : Setup) (terms : FrameTerms) (x : List V3) (method : DirKind) (along : List V3) (step : Step) : Type 0 where
  pub first : IsFirstAccepted setup terms x along step.half
  pub kind : step.kind ≡ method
  pub direction : step.direction ≡ along
  pub places : step.places ≡ moved_by x along step.half
  pub lower : step.lower ≡ potential setup terms step.places
  pub upper : step.upper ≡ potential setup terms x
