use Rattle.std.proofs.Common.{lit<, lit≤}
use Rattle.volume_cert.specs.Calls.Raws.{raw_coefficients}
use Rattle.volume_cert.proofs.Bounds.{combination_below}
use Rattle.volume_cert.proofs.halves.combination.Goals as goal

pub narrowed_into-requires : goal.narrowed_into-requires
narrowed_into-requires c =
    let below = combination_below c.args.k c.args.l c.args.m c.args.n (raw_coefficients c.args.whole) c.requires.few c.requires.room in (
      lit< tt,
      (
        lit< tt,
        (
          rw (c.add_into-four.ensures, c.add_into-three.ensures, c.add_into-two.ensures, c.times.ensures, c.times-2.ensures, c.times-3.ensures, c.times-4.ensures) below,
          lit≤ tt,
        ),
      ),
    )
