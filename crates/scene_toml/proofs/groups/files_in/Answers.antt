use Rattle.std.proofs.Common.{w8, arith}
use Rattle.scene_toml.proofs.Numbers.{fits_unsigned}
use Rattle.scene_toml.proofs.groups.files_in.Goals as goal

pub overflow_cast-result : goal.overflow_cast-result
overflow_cast-result c = fits_unsigned w8 _ _ c.in_ok-digits.digits 9 c.in_ok-digits.ensures.range (omega arith) (omega arith) (omega arith) (omega arith)
