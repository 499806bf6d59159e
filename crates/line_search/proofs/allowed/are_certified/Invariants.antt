use Rattle.std.proofs.Common.{take}
use Rattle.std.specs.Prelude.{All}
use Rattle.line_search.specs.Calls.Corners.{HasCertificate}
use Rattle.line_search.proofs.allowed.are_certified.Given as goal

abbrev pub invariant-loop-tet : goal.invariant-loop-tet
invariant-loop-tet l = All (HasCertificate l.x l.y) (take l.tet-index l.tets)
