use Rattle.std.proofs.Common.{◌≡◌, ◌∙◌, ◌*◌, ◌≤◌, ℕ, length, refl, sym, ap, subst}
use Rattle.std.specs.Prelude.{All}
use Rattle.std.specs.Vec.{with_items}
use Rattle.std.proofs.lemmas.List.{with_items_is}
use Rattle.space3.specs.declared.ways.TheConstants.{DIRECTION_LIMIT}
use Rattle.space3.specs.Vectors.{Within}
use Rattle.block_rows.specs.Stored.{nodes_of, table_of}
use Rattle.sparse_cg.specs.Directions.{IsNewton, direction_of}
use Rattle.sparse_cg.specs.Calls.States.{HasRoom, system_in}
use Rattle.sparse_cg.proofs.OneDirection.{newton_from_search, room_of, same_as_found, search_from_newton}
use Rattle.sparse_cg.proofs.solve.newton.Goals as goal

pub returns-then-not-search-clause-only : goal.returns-then-not-search-clause-only
returns-then-not-search-clause-only c direction h =
    let rows = c.args.rows.now in
    absurd (c.if-not-search.ensures.none refl direction
    (search_from_newton (nodes_of rows) (table_of rows) c.args.g.now c.prepare.new.task.shift c.prepare.ensures.shift (system_in rows c.prepare.new.task) c.prepare.ensures.system direction h))

pub invariant_of-work-2 : goal.invariant_of-work-2
invariant_of-work-2 c =
    let dir = c.work.inside.dir in
    let out = c.write_direction.new.out in
    let written = with_items_is dir out (c.write_direction.auto.out ∙ c.deref_mut.ensures.len) in
    let long : nodes_of c.args.rows.now ≡ length (with_items dir out).items = sym (ap length written ∙ c.write_direction.auto.out ∙ ap length (c.deref_mut.ensures.value ∙ c.work.view_is) ∙ c.requires.nodes) in
    record {
      few = subst (λ (n : ℕ). n ≤ 16384) long c.prepare.ensures.task.few;
      short = subst (All (Within DIRECTION_LIMIT)) (sym written) c.write_direction.ensures.short;
      target = c.prepare.ensures.task.target.three ∙ ap (λ (n : ℕ). 3 * n) long;
      divisors = c.prepare.ensures.task.each_divisor ∙ ap (λ (n : ℕ). 3 * n) long;
      room = subst (λ (n : ℕ). HasRoom n c.search.new.state) long (room_of (nodes_of c.args.rows.now) c.search.new.state c.if-not-search.ensures.state);
    }

pub returns-clause-found : goal.returns-clause-found
returns-clause-found c true =
    let rows = c.args.rows.now in
    let dir = c.work.inside.dir in
    let out = c.write_direction.new.out in
    let long = ap length (c.deref_mut.ensures.value ∙ c.work.view_is) ∙ c.requires.nodes in
    let written = with_items_is dir out (c.write_direction.auto.out ∙ c.deref_mut.ensures.len) ∙ c.write_direction.ensures.value ∙ (λ t. direction_of (long t) (c.deref.ensures.value t)) in
    subst (IsNewton (nodes_of rows) (table_of rows) c.args.g.now) (sym written)
    (newton_from_search (nodes_of rows) (table_of rows) c.args.g.now c.prepare.new.task.shift c.prepare.ensures.shift (system_in rows c.prepare.new.task) c.prepare.ensures.system
    (direction_of (nodes_of rows) c.search.new.state.x.items) (c.if-not-search.ensures.found refl))

pub returns-clause-only : goal.returns-clause-only
returns-clause-only c direction h =
    let rows = c.args.rows.now in
    let dir = c.work.inside.dir in
    let out = c.write_direction.new.out in
    let long = ap length (c.deref_mut.ensures.value ∙ c.work.view_is) ∙ c.requires.nodes in
    let written = with_items_is dir out (c.write_direction.auto.out ∙ c.deref_mut.ensures.len) ∙ c.write_direction.ensures.value ∙ (λ t. direction_of (long t) (c.deref.ensures.value t)) in (
      refl,
      same_as_found (nodes_of rows) (table_of rows) c.args.g.now c.prepare.new.task.shift c.prepare.ensures.shift (system_in rows c.prepare.new.task) c.prepare.ensures.system
          direction (direction_of (nodes_of rows) c.search.new.state.x.items) h (c.if-not-search.ensures.found refl) ∙ sym written,
    )
