use Rattle.std.proofs.Common.{◌^◌, ◌<◌, unsigned_abs, arith, lit<}
use Rattle.std.proofs.Math.Pow.{pow_mono}
use Rattle.num_q.proofs.fixed.Q.widened_into.Goals as goal

pub narrowed_into-requires : goal.narrowed_into-requires
narrowed_into-requires g c =
    let b : unsigned_abs c.args.self.raw < 2 ^ g.row.B2 = omega (arith, c.args.self.in_range, pow_mono {i = g.row.B} {j = g.row.B2} c.requires.room) in
    (lit< tt, (lit< tt, (b, c.requires.width)))
