use Rattle.std.proofs.Common.{◌∙◌, ap}
use Rattle.std.proofs.lemmas.List.{with_items_is}
use Rattle.block_rows.specs.Tables.{product}
use Rattle.sparse_cg.specs.Systems.{combined}
use Rattle.sparse_cg.specs.Turns.{curvature, moved, ratio}
use Rattle.sparse_cg.specs.Calls.Lists.{left_over}
use Rattle.sparse_cg.specs.Calls.States.{numbers_in, system_in}
use Rattle.sparse_cg.proofs.Applied.{residual_is}
use Rattle.sparse_cg.proofs.state.State.approach.Goals as goal

pub returns-clause-value : goal.returns-clause-value
returns-clause-value c =
    let self = c.args.self.now in
    let system = system_in c.args.rows.now c.args.task.now in
    let share_is = c.ratio-share.ensures ∙ ap (ratio self.rho.raw) c.requires.bend in
    let x_is = with_items_is self.x c.move_along.new.numbers (c.move_along.auto.numbers ∙ c.deref_mut.ensures.len) ∙ c.move_along.ensures.value ∙ (λ t. combined (moved (share_is t)) (c.deref_mut.ensures.value t) (c.deref.ensures.value t)) in
    let product_is = c.deref-4.ensures.value ∙ with_items_is self.product c.times.new.out (c.times.auto.out ∙ c.deref_mut-2.ensures.len) ∙ c.times.ensures.product ∙ ap (product system.nodes system.table) (c.deref-2.ensures.value ∙ x_is) in
    let r_is = with_items_is self.r c.write_left_over.new.out (c.write_left_over.auto.out ∙ c.deref_mut-3.ensures.len) ∙ c.write_left_over.ensures.value ∙ (λ t. combined (left_over system.shift) (c.deref-3.ensures.value t) (product_is t))
    ∙ residual_is system (combined (moved (ratio self.rho.raw (curvature system (numbers_in self)))) self.x.items self.p.items) in
    λ t. record { x = x_is t; r = r_is t; p = self.p.items; rho = self.rho.raw }
