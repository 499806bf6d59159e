use Rattle.std.proofs.Common.{◌∙◌, map, ap}
use Rattle.std.proofs.lemmas.List.{with_items_is}
use Rattle.block_rows.specs.Tables.{product}
use Rattle.sparse_cg.specs.Turns.{dot}
use Rattle.sparse_cg.specs.Calls.Lists.{shortened}
use Rattle.sparse_cg.specs.Calls.States.{system_in}
use Rattle.sparse_cg.proofs.Applied.{curvature_is}
use Rattle.sparse_cg.proofs.state.State.curvature.Goals as goal

pub returns-clause-value : goal.returns-clause-value
returns-clause-value c =
    let self = c.args.self.now in
    let system = system_in c.args.rows.now c.args.task.now in
    let product_is = c.deref-2.ensures.value ∙ with_items_is self.product c.times.new.out (c.times.auto.out ∙ c.deref_mut.ensures.len) ∙ c.times.ensures.product ∙ ap (product system.nodes system.table) c.deref.ensures.value in
    let scratch_is = c.deref-4.ensures.value ∙ with_items_is self.scratch c.write_shortened.new.out (c.write_shortened.auto.out ∙ c.deref_mut-2.ensures.len) ∙ c.write_shortened.ensures.value ∙ ap (map (shortened system.shift)) product_is in
    c.dot.ensures ∙ (λ t. dot (c.deref-3.ensures.value t) (scratch_is t)) ∙ curvature_is system self.p.items
