use Rattle.std.proofs.Common.{pos, arith}
use Rattle.friction_lag.proofs.slide.normal_number.Goals as goal

pub returns-clause-unit : goal.returns-clause-unit
returns-clause-unit c = record { x = c.requires 0 (pos 0) (omega arith); y = c.requires 1 (pos 0) (omega arith); z = c.requires 2 (pos 0) (omega arith) }
