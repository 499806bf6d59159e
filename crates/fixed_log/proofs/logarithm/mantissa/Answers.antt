use Rattle.std.proofs.Common.{◌≡◌, ◌-◌, ◌*◌, ◌%◌, ◌^◌, ◌<◌, sym, ◌∙◌, subst, arith}
use Rattle.std.proofs.Math.Nat.{mod-eq_of_lt}
use Rattle.fixed_log.proofs.Whole.{mantissa-is, mantissa-within, mantissa-past}
use Rattle.fixed_log.proofs.logarithm.mantissa.Goals as goal

pub overflow_cast-result-else-whole-le61-2 : goal.overflow_cast-result-else-whole-le61-2
overflow_cast-result-else-whole-le61-2 c =
    let y = mantissa-is c.args.m c.args.whole (record { power = c.requires.power; next = c.requires.next; small = c.requires.small }) in
    omega (arith, mantissa-past c.args.m c.args.whole c.if-whole-le61.false, y.below_two)

pub returns-then-whole-le61 : goal.returns-then-whole-le61
returns-then-whole-le61 c =
    let m = c.args.m in
    let k = c.args.whole in
    let y = mantissa-is m k (record { power = c.requires.power; next = c.requires.next; small = c.requires.small }) in
    let same = mantissa-within m k c.if-whole-le61.true in
    let below : m * 2 ^ (61 - k) < 2 ^ 62 = subst (λ n. n < 2 ^ 62) same y.below_two in
    let kept : m * 2 ^ (61 - k) % 2 ^ 64 ≡ m * 2 ^ (61 - k) = mod-eq_of_lt (omega arith) in
    record { value = kept ∙ sym same; below = omega (arith, kept) }

pub returns-else-whole-le61-clause-below : goal.returns-else-whole-le61-clause-below
returns-else-whole-le61-clause-below c =
    let y = mantissa-is c.args.m c.args.whole (record { power = c.requires.power; next = c.requires.next; small = c.requires.small }) in
    omega (arith, mantissa-past c.args.m c.args.whole c.if-whole-le61.false, y.below_two)
