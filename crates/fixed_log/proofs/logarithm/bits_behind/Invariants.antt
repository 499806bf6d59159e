use Rattle.std.proofs.Common.{◌≡◌, ◌+◌, ◌-◌, ◌^◌, ◌<◌}
use Rattle.fixed_log.specs.Logarithm.{lg_bits}
use Rattle.fixed_log.proofs.logarithm.bits_behind.Given as goal

abbrev pub invariant-loop-turn : goal.invariant-loop-turn
invariant-loop-turn l = record {
  together : l.bits + lg_bits (24 - l.turn) l.y ≡ lg_bits 24 l.fn.mantissa;
  below : l.y < 2 ^ 62;
}
