use Rattle.std.proofs.Common.{◌∙◌, ap, sym, [], ◌∷◌}
use Rattle.space3.specs.declared.vectors.V3.{V3}
use Rattle.vec_q.specs.Matrices.{M3, transposed}
use Rattle.vec_q.specs.Raws.{raws}
use Rattle.vec_q.specs.Rows.{rows_of}
use Rattle.neo_hooke.proofs.Symmetry.{block_between-comm}
use Rattle.neo_hooke.proofs.element.Element.all_blocks.Goals as goal

pub returns : goal.returns
returns c =
    let element = c.args.self.now in
    let row = c.args.rows.now in
    let slope = c.args.slopes.now in
    let comm = λ (first second h l : V3). ap rows_of (sym (block_between-comm element.r.raw element.mu.raw element.lambda.raw first second h l)) in
    let turn = λ (m : M3). rows_of (transposed m) in
    let at00 = c.rows.ensures ∙ ap rows_of c.block_between-zero.ensures in
    let at01 = c.rows-2.ensures ∙ ap rows_of c.block_between-zero_one.ensures in
    let at02 = c.rows-3.ensures ∙ ap rows_of c.block_between-zero_two.ensures in
    let at03 = c.rows-4.ensures ∙ ap rows_of c.block_between-zero_three.ensures in
    let at10 = c.turned.ensures ∙ ap turn c.block_between-zero_one.ensures ∙ comm (raws row.zero) (raws row.one) (raws slope.zero) (raws slope.one) in
    let at11 = c.rows-5.ensures ∙ ap rows_of c.block_between-one.ensures in
    let at12 = c.rows-6.ensures ∙ ap rows_of c.block_between-one_two.ensures in
    let at13 = c.rows-7.ensures ∙ ap rows_of c.block_between-one_three.ensures in
    let at20 = c.turned-2.ensures ∙ ap turn c.block_between-zero_two.ensures ∙ comm (raws row.zero) (raws row.two) (raws slope.zero) (raws slope.two) in
    let at21 = c.turned-3.ensures ∙ ap turn c.block_between-one_two.ensures ∙ comm (raws row.one) (raws row.two) (raws slope.one) (raws slope.two) in
    let at22 = c.rows-8.ensures ∙ ap rows_of c.block_between-two.ensures in
    let at23 = c.rows-9.ensures ∙ ap rows_of c.block_between-two_three.ensures in
    let at30 = c.turned-4.ensures ∙ ap turn c.block_between-zero_three.ensures ∙ comm (raws row.zero) (raws row.three) (raws slope.zero) (raws slope.three) in
    let at31 = c.turned-5.ensures ∙ ap turn c.block_between-one_three.ensures ∙ comm (raws row.one) (raws row.three) (raws slope.one) (raws slope.three) in
    let at32 = c.turned-6.ensures ∙ ap turn c.block_between-two_three.ensures ∙ comm (raws row.two) (raws row.three) (raws slope.two) (raws slope.three) in
    let at33 = c.rows-10.ensures ∙ ap rows_of c.block_between-three.ensures in
    λ t. (at00 t ∷ at01 t ∷ at02 t ∷ at03 t ∷ []) ∷ (at10 t ∷ at11 t ∷ at12 t ∷ at13 t ∷ []) ∷ (at20 t ∷ at21 t ∷ at22 t ∷ at23 t ∷ []) ∷ (at30 t ∷ at31 t ∷ at32 t ∷ at33 t ∷ []) ∷ []
