use Rattle.std.proofs.Common.{◌≡◌, ◌∙◌, ℕ, suc, ◌-◌, ◌+◌, refl, ap, subst, arith}
use Rattle.sparse_cg.specs.Turns.{IsClose, Numbers, turned}
use Rattle.sparse_cg.specs.Calls.Ends.{Ends}
use Rattle.sparse_cg.specs.Calls.States.{numbers_in, system_in}
use Rattle.sparse_cg.proofs.Endings.{none_left}
use Rattle.sparse_cg.proofs.SearchSteps.{above_along, at_end, differ, nothing_left, on_from, on_to, straight}
use Rattle.sparse_cg.proofs.search.search.Goals as goal

pub returns-then-not-is_positive-clause-none : goal.returns-then-not-is_positive-clause-none
returns-then-not-is_positive-clause-none c false direction h =
    straight (system_in c.args.rows.now c.args.task.now) (200 - c.loop.counter) (199 - c.loop.counter) (numbers_in c.loop.state) (omega arith)
    c.curvature-bend.result.raw c.curvature-bend.ensures.value (λ p. differ (c.if-not-is_positive.ensures.1 p)) direction (c.loop.invariant.after direction h)

pub returns-then-not-is_positive-2-clause-none : goal.returns-then-not-is_positive-2-clause-none
returns-then-not-is_positive-2-clause-none c false direction h =
    nothing_left (system_in c.args.rows.now c.args.task.now) (200 - c.loop.counter) (199 - c.loop.counter) (numbers_in c.loop.state) (omega arith)
    c.curvature-bend.new.self.rho.raw (ap (λ (n : Numbers). n.rho) c.curvature-bend.ensures.same) (λ p. differ (c.if-not-is_positive-2.ensures.1 p)) direction (c.loop.invariant.after direction h)

pub returns-then-is_close-clause-found : goal.returns-then-is_close-clause-found
returns-then-is_close-clause-found c true =
    let system = system_in c.args.rows.now c.args.task.now in
    let n = numbers_in c.loop.state in
    let bends = above_along _ _ c.curvature-bend.ensures.value (c.if-not-is_positive.ensures.0 refl) in
    let remains = above_along _ _ (ap (λ (m : Numbers). m.rho) c.curvature-bend.ensures.same) (c.if-not-is_positive-2.ensures.0 refl) in
    let is = c.turn.ensures.value ∙ ap (turned system) c.curvature-bend.ensures.same in
    c.loop.invariant.before _ (at_end system (200 - c.loop.counter) (199 - c.loop.counter) n (omega arith) bends remains (numbers_in c.turn.new.self) is (record { quarter = c.if-is_close.ensures.0 refl }))

pub loop-preserved : goal.loop-preserved
loop-preserved c =
    let system = system_in c.args.rows.now c.args.task.now in
    let n = numbers_in c.loop.state in
    let left = 200 - c.loop.counter in
    let rest = 200 - (c.loop.counter + 1) in
    let more : left ≡ suc rest = omega arith in
    let bends = above_along _ _ c.curvature-bend.ensures.value (c.if-not-is_positive.ensures.0 refl) in
    let remains = above_along _ _ (ap (λ (m : Numbers). m.rho) c.curvature-bend.ensures.same) (c.if-not-is_positive-2.ensures.0 refl) in
    let is = c.turn.ensures.value ∙ ap (turned system) c.curvature-bend.ensures.same in
    let after = numbers_in c.turn.new.self in
    let far : ¬ IsClose system after = λ close. differ (c.if-is_close.ensures.1 close.quarter) in
    record {
      state = c.turn.ensures.state;
      before = λ direction h. c.loop.invariant.before direction (on_from system left rest n more bends remains after is far direction h);
      after = λ direction h. on_to system left rest n more bends remains after is far direction (c.loop.invariant.after direction h);
    }

pub returns-clause-none : goal.returns-clause-none
returns-clause-none c false direction h =
    let over : 200 - c.loop.counter ≡ 0 = omega arith in
    none_left (system_in c.args.rows.now c.args.task.now) direction (numbers_in c.loop.state)
    (subst (λ (k : ℕ). Ends (system_in c.args.rows.now c.args.task.now) k (numbers_in c.loop.state) direction) over (c.loop.invariant.after direction h))
