use Rattle.std.proofs.Common.{◌≡◌, ◌+◌, ◌*◌, ◌^◌, pos, to_z, sym, ap, ◌∙◌, arith}
use Rattle.std.proofs.lemmas.Int.{ints}
use Rattle.std.specs.Int.{w64}
use Rattle.fixed_log.specs.Logarithm.{lg_bits, whole_lg, mantissa, lg_of}
use Rattle.fixed_log.proofs.Whole.{lg_of-is, lg_of-lt, lg_of-up, great_power-low, great_power-high}
use Rattle.fixed_log.proofs.logarithm.lg.Goals as goal

pub returns : goal.returns
returns c =
    let m = c.args.m in
    let low = c.requires.low in
    let high = c.requires.high in
    let whole = c.whole_part-whole.ensures.value in
    let bits : c.bits_behind-bits.result ≡ lg_bits 24 (mantissa m (whole_lg m)) =
    c.bits_behind-bits.ensures.value ∙ ap (λ y. lg_bits 24 y) (c.mantissa.ensures.value ∙ ap (λ k. mantissa m k) whole) in
    let sum : c.whole_part-whole.result * 2 ^ 24 + c.bits_behind-bits.result ≡ lg_of m = (λ i. whole i * 2 ^ 24 + bits i) ∙ sym (lg_of-is m) in
    let small = lg_of-lt m low high in
    let value : to_z w64 (c.whole_part-whole.result * 2 ^ 24 + c.bits_behind-bits.result) ≡ pos (lg_of m) = ap (λ n. to_z w64 n) sum ∙ omega (arith, ints, small) in
    record {
      value = value;
      monotone = λ b h k. rw value (omega (arith, ints, lg_of-up m b low h k));
      power = rw value (great_power-low m low high);
      next_power = rw value (great_power-high m low high);
      small = small;
    }
