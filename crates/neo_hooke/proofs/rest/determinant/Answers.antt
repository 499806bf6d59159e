use Rattle.std.proofs.Common.{◌≡◌, ◌∙◌, ◌*◌, ◌^◌, ◌<◌, ℤ, unsigned_abs, subst, sym, arith, lit<, lit≤}
use Rattle.space3.specs.Vectors.{dot_product}
use Rattle.space3.proofs.Bounds.{determinant_size}
use Rattle.vec_q.specs.Matrices.{determinant_of}
use Rattle.vec_q.specs.Raws.{raws, raw_columns}
use Rattle.neo_hooke.proofs.rest.determinant.Goals as goal

pub narrowed_into-requires : goal.narrowed_into-requires
narrowed_into-requires c =
    let value : c.dot_into-wide.result.raw ≡ determinant_of (raw_columns c.args.m) = c.dot_into-wide.ensures ∙ (λ i. dot_product (raws c.args.m.first) (c.cross_into-across.ensures i)) in
    let size = determinant_size 16384 (3 * (16384 * (2 * (16384 * 16384)))) (raws c.args.m.first) (raws c.args.m.second) (raws c.args.m.third) c.requires.first c.requires.second c.requires.third (lit≤ tt) in
    let narrow : unsigned_abs (determinant_of (raw_columns c.args.m)) < 2 ^ 45 = omega (arith, size.bound) in
    (lit< tt, (lit< tt, (subst (λ (z : ℤ). unsigned_abs z < 2 ^ 45) (sym value) narrow, lit≤ tt)))
