use Rattle.std.proofs.Common.{◌∙◌, ◌^◌, ℤ, pos, ap, arith}
use Rattle.num_q.specs.Rounding.{floor_of}
use Rattle.sparse_cg.proofs.Shifts.{target_short}
use Rattle.sparse_cg.proofs.scale.target_number.Goals as goal

pub narrowed_into-requires : goal.narrowed_into-requires
narrowed_into-requires c =
    let short = target_short c.args.shift c.args.slope.raw c.shifted.result.raw c.requires.fit (c.shifted.ensures ∙ ap (λ (z : ℤ). floor_of z (pos (2 ^ c.args.shift))) c.neg.ensures) in
    (omega arith, (omega arith, (short, omega arith)))
