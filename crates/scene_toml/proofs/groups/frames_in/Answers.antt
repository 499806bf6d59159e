use Rattle.std.proofs.Common.{w32, arith}
use Rattle.scene_toml.proofs.Numbers.{fits_unsigned}
use Rattle.scene_toml.proofs.groups.frames_in.Goals as goal

pub overflow_cast-result : goal.overflow_cast-result
overflow_cast-result c = fits_unsigned w32 _ _ c.in_ok-frames.frames 9999 c.in_ok-frames.ensures.range (omega arith) (omega arith) (omega arith) (omega arith)

pub overflow_cast-result-2 : goal.overflow_cast-result-2
overflow_cast-result-2 c = fits_unsigned w32 _ _ c.in_ok-budget.budget 1000 c.in_ok-budget.ensures.range (omega arith) (omega arith) (omega arith) (omega arith)
