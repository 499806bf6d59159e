use Rattle.surface_mesh.proofs.FirstTets.{AreSumsOf}
use Rattle.surface_mesh.proofs.setup.sums_of.Given as goal

abbrev pub invariant-loop-tet : goal.invariant-loop-tet
invariant-loop-tet l = AreSumsOf l.fn.mesh l.fn.numbers l.tet-index l.rest.items l.shares.items
