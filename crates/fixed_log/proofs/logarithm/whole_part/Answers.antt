use Rattle.std.proofs.Common.{refl}
use Rattle.fixed_log.specs.Logarithm.{whole_lg}
use Rattle.fixed_log.proofs.Whole.{whole_lg-is}
use Rattle.fixed_log.proofs.logarithm.whole_part.Goals as goal

pub returns : goal.returns
unfolding whole_lg
returns c =
    let w = whole_lg-is c.args.m c.requires.low c.requires.high in
    record { value = refl; power = w.power; next = w.next; small = w.small }
