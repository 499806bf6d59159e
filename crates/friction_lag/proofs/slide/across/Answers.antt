use Rattle.std.proofs.Common.{sym, ◌∙◌, subst, pos, ◌-ℤ◌, ◌*ℤ◌, ◌^◌, arith}
use Rattle.num_q.specs.Rounding.{floor_of}
use Rattle.space3.specs.Vectors.{vector}
use Rattle.vec_q.specs.Raws.{raws}
use Rattle.vec_q.specs.Widths.{IsBelow}
use Rattle.friction_lag.proofs.Motions.{across_below}
use Rattle.friction_lag.proofs.slide.across.Goals as goal

pub narrowed_into-requires : goal.narrowed_into-requires
narrowed_into-requires c =
    let m = c.args.motion in
    let n = c.args.normal in
    let x = c.rest.ensures ∙ (λ i. m.x.raw -ℤ floor_of (c.dot_into-along.ensures i *ℤ n.x.raw) (pos (2 ^ 32))) in
    let y = c.rest-2.ensures ∙ (λ i. m.y.raw -ℤ floor_of (c.dot_into-along.ensures i *ℤ n.y.raw) (pos (2 ^ 32))) in
    let z = c.rest-3.ensures ∙ (λ i. m.z.raw -ℤ floor_of (c.dot_into-along.ensures i *ℤ n.z.raw) (pos (2 ^ 32))) in
    (omega arith, (omega arith, (subst (IsBelow 41) (sym (λ i. vector (x i) (y i) (z i))) (across_below (raws n) (raws m) c.requires.unit c.requires.bound), omega arith)))
