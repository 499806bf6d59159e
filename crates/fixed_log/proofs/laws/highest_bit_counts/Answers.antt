use Rattle.fixed_log.proofs.Whole.{whole_lg-is}
use Rattle.fixed_log.proofs.laws.highest_bit_counts.Goals as goal

pub returns : goal.returns
returns c = record { power = λ m h k. (whole_lg-is m h k).power; next = λ m h k. (whole_lg-is m h k).next }
