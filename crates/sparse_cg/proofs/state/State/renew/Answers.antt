use Rattle.std.proofs.Common.{◌∙◌, ℤ, ap}
use Rattle.std.proofs.lemmas.List.{with_items_is}
use Rattle.std.specs.Vec.{with_items}
use Rattle.sparse_cg.specs.Systems.{combined, quotient_of}
use Rattle.sparse_cg.specs.Turns.{dot, moved, ratio}
use Rattle.sparse_cg.specs.Calls.Lists.{numbers_of}
use Rattle.sparse_cg.specs.Calls.States.{system_in}
use Rattle.sparse_cg.proofs.state.State.renew.Goals as goal

pub returns-clause-value : goal.returns-clause-value
returns-clause-value c =
    let self = c.args.self.now in
    let system = system_in c.args.rows.now c.args.task.now in
    let z_is = with_items_is self.scratch c.write_quotients.new.out (c.write_quotients.auto.out ∙ c.deref_mut.ensures.len) ∙ c.write_quotients.ensures.value ∙ (λ t. combined (quotient_of system.shift) (c.deref.ensures.value t) (numbers_of (c.deref-2.ensures.value t))) in
    let rho_is = c.dot-rho.ensures ∙ (λ t. dot (c.deref-3.ensures.value t) ((c.deref-4.ensures.value ∙ z_is) t)) in
    let share_is = c.ratio-share.ensures ∙ ap (λ (rho : ℤ). ratio rho self.rho.raw) rho_is in
    let p_is = ap (λ v. v.items) c.swap.ensures.y_after ∙ with_items_is (with_items self.scratch c.write_quotients.new.out) c.move_along.new.numbers (c.move_along.auto.numbers ∙ c.deref_mut-2.ensures.len) ∙ c.move_along.ensures.value
    ∙ (λ t. combined (moved (share_is t)) ((c.deref_mut-2.ensures.value ∙ z_is) t) (c.deref-5.ensures.value t)) in
    λ t. record { x = self.x.items; r = self.r.items; p = p_is t; rho = rho_is t }
