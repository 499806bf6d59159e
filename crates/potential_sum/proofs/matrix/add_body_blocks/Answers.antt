use Rattle.std.proofs.Common.{refl}
use Rattle.std.proofs.lemmas.Result.{IfOk-weaker}
use Rattle.potential_sum.specs.Bodies.{corners_at}
use Rattle.potential_sum.specs.Calls.Kept.{elastic_in}
use Rattle.potential_sum.specs.Contributions.{elastic_contribution}
use Rattle.potential_sum.proofs.SmallBlocks.{elastic-blocks-small}
use Rattle.potential_sum.proofs.Stiffness.{part_added, part_small}
use Rattle.potential_sum.proofs.matrix.add_body_blocks.Goals as goal

pub add_blocks-requires-clause-small : goal.add_blocks-requires-clause-small
add_blocks-requires-clause-small c =
    let tet = elastic_in c.args.body.now in
    part_small (elastic_contribution c.args.x.now tet) c.blocks-2.result c.blocks-2.ensures (elastic-blocks-small tet.rest tet.mu tet.lambda (corners_at c.args.x.now tet.nodes))

pub returns : goal.returns
returns c =
    let body = c.args.body.now in
    let part = elastic_contribution c.args.x.now (elastic_in body) in
    IfOk-weaker c.add_blocks.result _ _
    (λ _ added. part_added part c.args.sums.now c.add_blocks.new.sums body.nodes c.blocks-2.result c.requires.stand.four refl c.blocks-2.ensures added)
    c.add_blocks.ensures
