-- The matrix of a frame from the sums of blocks.
use Rattle.std.proofs.Common.{◌≡◌, ◌∙◌, ℕ, ℤ, pos, List, ◌++◌, length, map, get_or, ap, sym, append_assoc, unsigned_abs}
use Rattle.std.specs.List.{range_with_len}
use Rattle.std.specs.List.Sorted.{IsPermutation}
use Rattle.std.proofs.lemmas.List.Sorted.{IsPermutation-map}
use Rattle.std.proofs.lemmas.Simd.{map-map}
use Rattle.space3.specs.declared.vectors.V3.{V3}
use Rattle.boundary.specs.declared.pairs.Pair.{Pair}
use Rattle.block_rows.specs.Tables.{free_table}
use Rattle.broad_grid.specs.Held.{loose_close_pairs_of}
use Rattle.surface_mesh.specs.declared.setup.Setup.{Setup}
use Rattle.friction_lag.specs.declared.contacts.Contact.{Contact}
use Rattle.friction_lag.specs.Lagged.{lagged_in}
use Rattle.inertia_term.specs.Inertia.{inertia_block}
use Rattle.potential_sum.specs.declared.bodies.Body.{Body}
use Rattle.potential_sum.specs.Calls.Barriers.{barrier_at}
use Rattle.potential_sum.specs.Calls.Friction.{friction_at}
use Rattle.potential_sum.specs.Calls.Inertia.{part_at}
use Rattle.potential_sum.specs.Calls.Kept.{elastic_in}
use Rattle.potential_sum.specs.Calls.Stiffness.{at_pair, inertia_table, stiffness_of, sum_of_tables}
use Rattle.potential_sum.specs.Contributions.{Contribution, elastic_contribution}
use Rattle.potential_sum.specs.Matrix.{block_total, stiffness, stiffness_at}
use Rattle.potential_sum.specs.Calls.Loose.{loose_contributions}
use Rattle.potential_sum.specs.Held.{loose_tets}
use Rattle.potential_sum.specs.Terms.{FrameTerms}
use Rattle.potential_sum.proofs.LooseBlocks.{stiffness_of_all}
use Rattle.potential_sum.proofs.Gradients.{contributions-kept}
use Rattle.potential_sum.proofs.OtherOrders.{block_total-permutation}
use Rattle.potential_sum.proofs.Stiffness.{none_right, stiffness_of-append}

-- what inertia adds, as contributions
inertia_stiffness : (masses : List ℤ) (targets x : List V3) (n : ℕ) → inertia_table masses n ≡ stiffness_of (map (part_at masses targets x) (range_with_len 0 n))
inertia_stiffness masses targets x n = λ t. λ row column. each row column t
  where
    each : (row column : ℕ) → inertia_table masses n row column ≡ block_total (map (stiffness_at row column) (map (part_at masses targets x) (range_with_len 0 n)))
    each row column =
        (λ t. block_total (map (λ node. sym (none_right (at_pair node node (inertia_block (get_or masses node (pos 0))) row column)) t) (range_with_len 0 n)))
        ∙ ap block_total (sym (map-map (stiffness_at row column) (part_at masses targets x) (range_with_len 0 n)))

-- the sums don't depend on the order of contributions
stiffness_of-permutation : (xs ys : List Contribution) → IsPermutation xs ys → stiffness_of ys ≡ stiffness_of xs
stiffness_of-permutation xs ys moved = λ i. λ row column.
    block_total-permutation (map (stiffness_at row column) xs) (map (stiffness_at row column) ys) (IsPermutation-map (stiffness_at row column) xs ys moved) i

-- the sums of all contributions, from what is kept and from the pairs that were found
pub stiffness-kept : (s : Setup) (frame : FrameTerms) (x : List V3) (bodies : List Body) (pairs : List Pair) (contacts : List Contact) → length x ≡ length s.mesh.numbers → IsPermutation (loose_tets s) (map elastic_in bodies) →
    pairs ≡ loose_close_pairs_of s.fixed (unsigned_abs s.numbers.dhat) s.surface x → map lagged_in contacts ≡ frame.contacts →
    free_table s.fixed (sum_of_tables (inertia_table s.mass (length x)) (stiffness_of (map (λ body. elastic_contribution x (elastic_in body)) bodies ++ map (barrier_at s x) pairs ++ map (friction_at s.numbers x) contacts))) ≡ free_table s.fixed (stiffness s frame x)
stiffness-kept s frame x bodies pairs contacts e kept found lagged =
    let nodes : List Contribution = map (part_at s.mass frame.targets x) (range_with_len 0 (length x)) in
    let tets : List Contribution = map (λ body. elastic_contribution x (elastic_in body)) bodies in
    let near : List Contribution = map (barrier_at s x) pairs in
    let rubbing : List Contribution = map (friction_at s.numbers x) contacts in
    ap (free_table s.fixed)
    (ap (λ t. sum_of_tables t (stiffness_of (tets ++ near ++ rubbing))) (inertia_stiffness s.mass frame.targets x (length x))
    ∙ sym (stiffness_of-append nodes (tets ++ near ++ rubbing))
    ∙ ap stiffness_of (sym (append_assoc nodes (tets ++ near) rubbing) ∙ ap (λ parts. parts ++ rubbing) (sym (append_assoc nodes tets near)))
    ∙ stiffness_of-permutation (loose_contributions s frame x) _ (contributions-kept s frame x bodies pairs contacts e kept found lagged))
    ∙ stiffness_of_all s frame x
