use Rattle.std.proofs.Common.{◌∙◌, ap}
use Rattle.vec_q.specs.Matrices.{cofactors, determinant_of}
use Rattle.vec_q.specs.Raws.{raw_columns}
use Rattle.neo_hooke.specs.Elements.{shape_in}
use Rattle.neo_hooke.specs.FourNodes.{vector_at}
use Rattle.neo_hooke.proofs.FourBlocks.{blocks-are}
use Rattle.neo_hooke.proofs.element.Element.blocks.Goals as goal

pub returns : goal.returns
returns c =
    let e = c.args.self.now in
    c.all_blocks.ensures
    ∙ blocks-are (shape_in e) e.mu.raw e.lambda.raw c.args.x.now c.determinant.result.raw (raw_columns c.cofactors_into.result) (raw_columns c.widened_into.result)
    (vector_at c.four_rows-rows.result) (vector_at c.four_slopes-slopes.result)
    (c.determinant.ensures ∙ ap determinant_of c.edges_of-edges.ensures) (c.cofactors_into.ensures ∙ ap cofactors c.edges_of-edges.ensures)
    (c.widened_into.ensures ∙ c.transposed.ensures) c.four_rows-rows.ensures c.four_slopes-slopes.ensures
