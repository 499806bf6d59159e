use Rattle.std.proofs.Common.{sym, subst}
use Rattle.space3.specs.Vectors.{Within}
use Rattle.nearest.specs.declared.limits.TheConstants.{ONE}
use Rattle.friction_lag.proofs.slide.slide_of.Goals as goal

pub across-requires-clause-unit : goal.across-requires-clause-unit
across-requires-clause-unit c = subst (Within ONE) (sym c.normal_number.ensures.value) c.normal_number.ensures.unit
