use Rattle.std.proofs.Common.{◌≡◌, ◌∙◌, ◌++◌, Bool, List, ap, length, map, subst}
use Rattle.block_rows.specs.Stored.{table_of}
use Rattle.block_rows.specs.Tables.{Table, free_table}
use Rattle.potential_sum.specs.declared.bodies.Body.{Body}
use Rattle.potential_sum.specs.Calls.Barriers.{barrier_at}
use Rattle.potential_sum.specs.Calls.Friction.{friction_at}
use Rattle.potential_sum.specs.Calls.Kept.{elastic_in}
use Rattle.potential_sum.specs.Calls.Stiffness.{inertia_table, stiffness_of, sum_of_tables}
use Rattle.potential_sum.specs.Contributions.{elastic_contribution}
use Rattle.potential_sum.proofs.Stiffness.{four_kinds, from_nothing, more_again}
use Rattle.potential_sum.proofs.matrix.block_sums.Goals as goal

-- what stands at free nodes, by flags and sums that are the same
at_free : (flags fixed : List Bool) → flags ≡ fixed → (table sum all : Table) → free_table flags table ≡ free_table flags sum → sum ≡ all → free_table fixed table ≡ free_table fixed all
at_free flags fixed e table sum all h f = subst (λ (now : List Bool). free_table now table ≡ free_table now all) e (h ∙ ap (free_table flags) f)

pub returns-clause-table : goal.returns-clause-table
returns-clause-table c =
    let x = c.args.x.now in
    let bodies = map (λ (body : Body). elastic_contribution x (elastic_in body)) c.args.bodies.now in
    let pairs = map (barrier_at c.args.setup.now x) c.args.pairs.now in
    let contacts = map (friction_at c.args.setup.now.numbers x) c.args.contacts.now in
    let masses = c.items-2.result.now in
    let inertia = inertia_table masses (length masses) in
    let none = c.in_ok-sums.sums in
    let one = c.add_inertia_blocks.new.sums in
    let two = c.add_elastic_blocks.new.sums in
    let three = c.add_barrier_blocks.new.sums in
    let all = c.add_friction_blocks.new.sums in
    let n = length masses in
    let first = more_again none one two inertia (stiffness_of bodies) n _ c.in_ok-add_inertia_blocks.ensures c.in_ok-add_elastic_blocks.ensures in
    let second = more_again none two three _ (stiffness_of pairs) _ _ first c.in_ok-add_barrier_blocks.ensures in
    let third = more_again none three all _ (stiffness_of contacts) _ _ second c.in_ok-add_friction_blocks.ensures in
    let mass : inertia ≡ inertia_table c.args.setup.now.mass (length x) = (λ i. inertia_table (c.items-2.ensures i) (length (c.items-2.ensures i))) ∙ ap (inertia_table c.args.setup.now.mass) c.requires.each_mass in
    let sum = four_kinds inertia bodies pairs contacts ∙ ap (λ t. sum_of_tables t (stiffness_of (bodies ++ pairs ++ contacts))) mass in
    let fixed : none.fixed ≡ c.args.setup.now.fixed = c.in_ok-sums.ensures.fixed ∙ c.items.ensures in
    at_free none.fixed c.args.setup.now.fixed fixed (table_of all.rows) _ _ (from_nothing none all _ _ c.in_ok-sums.ensures.table third) sum
