use Rattle.std.proofs.Common.{◌≡◌, ◌∙◌, ◌*◌, ◌^◌, ◌<◌, ◌+ℤ◌, ℤ, unsigned_abs, subst, sym, ap, arith, lit<, lit≤}
use Rattle.vec_q.specs.Matrices.{product_of, sum_of_squares}
use Rattle.vec_q.specs.Raws.{raw_columns}
use Rattle.vec_q.proofs.Sizes.{product_size, squares_size}
use Rattle.neo_hooke.proofs.strain.squared_strain.Goals as goal

pub narrowed_into-requires : goal.narrowed_into-requires
narrowed_into-requires c =
    let edges = raw_columns c.args.edges in
    let adj = raw_columns c.args.adj in
    let value : c.add_into-wide.result.raw ≡ sum_of_squares (product_of edges adj) =
    c.add_into-wide.ensures ∙ (λ i. (c.add_into-two.ensures ∙ (λ j. c.dot_into-first.ensures j +ℤ c.dot_into-second.ensures j)) i +ℤ c.dot_into-third.ensures i) ∙ ap sum_of_squares c.mul_into-strain.ensures in
    let size = squares_size (3 * (65536 * 2 ^ 29)) (product_of edges adj) (product_size 65536 (2 ^ 29) edges adj c.requires.edges c.requires.adj) in
    let narrow : unsigned_abs (sum_of_squares (product_of edges adj)) < 2 ^ 98 = omega (arith, size.bound) in
    (lit< tt, (lit< tt, (subst (λ (z : ℤ). unsigned_abs z < 2 ^ 98) (sym value) narrow, lit≤ tt)))
