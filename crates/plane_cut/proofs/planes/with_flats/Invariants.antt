use Rattle.plane_cut.specs.Calls.Elimination.{ServesFlat}
use Rattle.plane_cut.specs.Calls.Cones.{Narrows}
use Rattle.plane_cut.specs.declared.cones.Cone.TheVariants.{Empty}
use Rattle.plane_cut.proofs.Narrowing.{First}
use Rattle.plane_cut.proofs.planes.with_flats.Given as goal

abbrev pub invariant-loop-i : goal.invariant-loop-i
invariant-loop-i l = Narrows Empty (First ServesFlat l.rows l.i) l.cone
