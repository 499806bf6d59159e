use Rattle.std.proofs.Common.{take}
use Rattle.std.specs.Prelude.{All}
use Rattle.mesh_check.specs.Defects.{PartsMeet}
use Rattle.mesh_check.proofs.meeting.first_meeting_of.Given as goal

-- none of the pairs so far meets
abbrev pub invariant-loop-pair : goal.invariant-loop-pair
invariant-loop-pair l = All (λ pair. ¬ PartsMeet l.setup pair) (take l.pair-index l.pairs)
