use Rattle.std.proofs.Common.{◌∙◌, ◌+◌, arith}
use Rattle.sparse_cg.proofs.Powers.{power_below, power_is}
use Rattle.sparse_cg.proofs.numbers.power.Goals as goal

pub of_raw-requires : goal.of_raw-requires
of_raw-requires c = (omega arith, (power_below (16 + c.args.shift) (omega arith), omega arith))

pub returns : goal.returns
returns c = c.of_raw.ensures ∙ power_is (16 + c.args.shift) (omega arith)
