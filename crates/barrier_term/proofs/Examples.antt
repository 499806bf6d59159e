-- The numbers of an example, computed.
use Rattle.std.proofs.Common.{◌≡◌, pos, negsuc, refl}
use Rattle.fixed_log.specs.Logarithm.{ln_ratio_of, lg_of, whole_lg, lg_bits}
use Rattle.barrier_term.specs.Barrier.{barrier_energy, barrier_slope}
use Rattle.barrier_term.specs.Examples.{over_a_triangle}

pub energy : barrier_energy (pos 1048576) (pos 10) over_a_triangle ≡ pos 79765499
unfolding ln_ratio_of lg_of whole_lg lg_bits lib.Count.count_leading_zeros
energy = refl

pub slope : barrier_slope (pos 1048576) (pos 10) over_a_triangle ≡ negsuc 3345830687
unfolding ln_ratio_of lg_of whole_lg lg_bits lib.Count.count_leading_zeros
slope = refl
