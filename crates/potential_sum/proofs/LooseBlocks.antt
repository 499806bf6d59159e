-- The blocks of contributions all of whose nodes are fixed change nothing at free nodes.
use Rattle.std.proofs.Common.{◌≡◌, ◌∙◌, ℕ, Bool, true, false, cond, List, [], ◌∷◌, ◌++◌, map, refl, ap, sym}
use Rattle.std.specs.Prelude.{◌||◌, not, slice_index_or}
use Rattle.vec_q.specs.Matrices.{M3}
use Rattle.block_rows.specs.Tables.{Table, free_table, sum_of_blocks}
use Rattle.block_rows.proofs.FreeTables.{free_agree}
use Rattle.broad_grid.specs.Held.{are_held}
use Rattle.potential_sum.specs.Calls.Loose.{loose, loose_contributions}
use Rattle.potential_sum.specs.Calls.Stiffness.{stiffness_of, sum_of_tables}
use Rattle.potential_sum.specs.Bodies.{elastic_tets}
use Rattle.potential_sum.specs.Contacts.{close_parts}
use Rattle.potential_sum.specs.Terms.{FrameTerms}
use Rattle.surface_mesh.specs.declared.setup.Setup.{Setup}
use Rattle.surface_mesh.specs.Setup.{node_positions}
use Rattle.space3.specs.declared.vectors.V3.{V3}
use Rattle.potential_sum.specs.Contributions.{Contribution, barrier_contribution, contributions, elastic_contribution, friction_contribution, inertia_contribution}
use Rattle.potential_sum.specs.Matrix.{block_total, stiffness_at}
use Rattle.potential_sum.proofs.Stiffness.{none_left, nothing_at_free, stiffness_of-append}

-- what stands at free nodes
stiffness_at_free : (fixed : List Bool) (parts : List Contribution) (row column : ℕ) → (slice_index_or fixed row false || slice_index_or fixed column false) ≡ false →
    stiffness_of (loose fixed parts) row column ≡ stiffness_of parts row column
stiffness_at_free fixed [] row column free = refl
stiffness_at_free fixed (part ∷ parts) row column free = one (are_held fixed part.nodes) refl (stiffness_at_free fixed parts row column free)
  where
    at : Contribution → M3
    at = stiffness_at row column

    one : (b : Bool) → are_held fixed part.nodes ≡ b → stiffness_of (loose fixed parts) row column ≡ stiffness_of parts row column →
        block_total (map at (cond (not (are_held fixed part.nodes)) (part ∷ loose fixed parts) (loose fixed parts))) ≡ sum_of_blocks (at part) (block_total (map at parts))
    one true e rest =
        rw e (rest ∙ sym (ap (λ (m : M3). sum_of_blocks m (block_total (map at parts))) (nothing_at_free part fixed e row column free) ∙ none_left (block_total (map at parts))))
    one false e rest = rw e (ap (sum_of_blocks (at part)) rest)

-- all contributions stand at free nodes as the loose ones do
pub stiffness_of_all : (s : Setup) (frame : FrameTerms) (x : List V3) → free_table s.fixed (stiffness_of (loose_contributions s frame x)) ≡ free_table s.fixed (stiffness_of (contributions s frame x))
stiffness_of_all s frame x =
    free_agree s.fixed (stiffness_of (loose_contributions s frame x)) (stiffness_of (contributions s frame x)) (λ row column free.
    (λ i. sums nodes (loose s.fixed tets) (loose s.fixed near) i row column)
    ∙ (λ i. sum_of_blocks (sum_of_blocks (sum_of_blocks (stiffness_of nodes row column) (stiffness_at_free s.fixed tets row column free i)) (stiffness_at_free s.fixed near row column free i)) (stiffness_of rubbing row column))
    ∙ sym (λ i. sums nodes tets near i row column))
  where
    nodes : List Contribution
    nodes = map (inertia_contribution s frame x) (node_positions s.mesh)

    tets : List Contribution
    tets = map (elastic_contribution x) (elastic_tets s)

    near : List Contribution
    near = map (barrier_contribution s.numbers x) (close_parts s x)

    rubbing : List Contribution
    rubbing = map (friction_contribution s.numbers x) frame.contacts

    sums : (ns ts ps : List Contribution) → stiffness_of (((ns ++ ts) ++ ps) ++ rubbing) ≡ sum_of_tables (sum_of_tables (sum_of_tables (stiffness_of ns) (stiffness_of ts)) (stiffness_of ps)) (stiffness_of rubbing)
    sums ns ts ps =
        stiffness_of-append ((ns ++ ts) ++ ps) rubbing
        ∙ ap (λ (t : Table). sum_of_tables t (stiffness_of rubbing)) (stiffness_of-append (ns ++ ts) ps ∙ ap (λ (t : Table). sum_of_tables t (stiffness_of ps)) (stiffness_of-append ns ts))
