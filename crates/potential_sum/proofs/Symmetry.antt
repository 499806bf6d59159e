-- The matrix is symmetric.
use Rattle.std.proofs.Common.{◌≡◌, ◌∙◌, ℕ, ℤ, pos, ◌+ℤ◌, ◌*ℤ◌, Bool, true, false, List, [], ◌∷◌, ◌++◌, length, map, get_or, refl, ap, sym, arith}
use Rattle.std.specs.Prelude.{◌==◌, ◌&&◌, ◌||◌, All, if◌then◌else◌, slice_index, slice_index_or}
use Rattle.std.specs.List.{flat_map, range_with_len}
use Rattle.std.proofs.lemmas.Bool.Decides.{nat_tests}
use Rattle.std.proofs.lemmas.Int.{ints}
use Rattle.std.proofs.lemmas.List.Elements.{All-append, All-head, All-map, All-tail}
use Rattle.whole_laws.proofs.Ring.{ring, v, ◌⊗◌}
use Rattle.num_q.specs.Rounding.{cut_of, floor_of}
use Rattle.space3.specs.declared.vectors.V3.{V3}
use Rattle.space3.specs.Vectors.{sum_of, vector}
use Rattle.safe_motion.specs.Safety.{PartPair}
use Rattle.vec_q.specs.Matrices.{M3, columns, transposed, unit_times}
use Rattle.nearest.specs.SignedWeights.{signed_sum, signed_weights}
use Rattle.neo_hooke.specs.Rest.{edge_matrix}
use Rattle.neo_hooke.proofs.Symmetry.{block_at-comm}
use Rattle.barrier_term.specs.Barrier.{if_active}
use Rattle.barrier_term.specs.Blocks as barrier
use Rattle.friction_lag.specs.Contacts.{LaggedContact}
use Rattle.friction_lag.specs.Friction.{drag_of, slide_of}
use Rattle.block_rows.specs.Tables.{Table, cut_block, cut_table, no_block, sum_of_blocks, unit_block}
use Rattle.surface_mesh.specs.declared.materials.Numbers.{Numbers}
use Rattle.surface_mesh.specs.declared.setup.Setup.{Setup}
use Rattle.surface_mesh.specs.Setup.{node_positions}
use Rattle.potential_sum.specs.Bodies.{ElasticTet, corners_at, elastic_tets}
use Rattle.potential_sum.specs.Contacts.{close_parts, near_of_parts, points_of_parts}
use Rattle.potential_sum.specs.Contributions.{Contribution, barrier_contribution, contributions, elastic_contribution, friction_contribution, inertia_contribution}
use Rattle.potential_sum.specs.Matrix.{block_total, matrix, stiffness, stiffness_at}
use Rattle.potential_sum.specs.Terms.{FrameTerms}
use Rattle.potential_sum.proofs.Stiffness.{block_total-append, none_right, regrouped}

-- ---- sums in another order
vector_turned : (a b : V3) → sum_of a b ≡ sum_of b a
vector_turned a b = λ i. vector (each a.x b.x i) (each a.y b.y i) (each a.z b.z i)
  where
    each : (a b : ℤ) → a +ℤ b ≡ b +ℤ a
    each a b = omega (arith, ints)

turned : (a b : M3) → sum_of_blocks a b ≡ sum_of_blocks b a
turned a b = λ i. columns (vector_turned a.first b.first i) (vector_turned a.second b.second i) (vector_turned a.third b.third i)

-- two sums, added number by number
across : (a b c d : M3) → sum_of_blocks (sum_of_blocks a b) (sum_of_blocks c d) ≡ sum_of_blocks (sum_of_blocks a c) (sum_of_blocks b d)
across a b c d =
    regrouped a b (sum_of_blocks c d)
    ∙ ap (sum_of_blocks a) (sym (regrouped b c d) ∙ ap (λ (m : M3). sum_of_blocks m d) (turned b c) ∙ regrouped c b d)
    ∙ sym (regrouped a c (sum_of_blocks b d))

abbrev sum_over : (ℕ → M3) → List ℕ → M3
sum_over f xs = block_total (map f xs)

sum_over-none : (xs : List ℕ) → sum_over (λ x. no_block) xs ≡ no_block
sum_over-none [] = refl
sum_over-none (x ∷ xs) = ap (sum_of_blocks no_block) (sum_over-none xs) ∙ none_right no_block

sum_over-sum : (f g : ℕ → M3) (xs : List ℕ) → sum_over (λ x. sum_of_blocks (f x) (g x)) xs ≡ sum_of_blocks (sum_over f xs) (sum_over g xs)
sum_over-sum f g [] = sym (none_right no_block)
sum_over-sum f g (x ∷ xs) = ap (sum_of_blocks (sum_of_blocks (f x) (g x))) (sum_over-sum f g xs) ∙ across (f x) (g x) (sum_over f xs) (sum_over g xs)

sum_over-same : (f g : ℕ → M3) (xs : List ℕ) → ((x : ℕ) → f x ≡ g x) → sum_over f xs ≡ sum_over g xs
sum_over-same f g [] h = refl
sum_over-same f g (x ∷ xs) h = λ i. sum_of_blocks (h x i) (sum_over-same f g xs h i)

-- a sum of sums, the inner and the outer exchanged
exchanged : (f : ℕ → ℕ → M3) (xs ys : List ℕ) → sum_over (λ x. sum_over (f x) ys) xs ≡ sum_over (λ y. sum_over (λ x. f x y) xs) ys
exchanged f [] ys = sym (sum_over-none ys)
exchanged f (x ∷ xs) ys = ap (sum_of_blocks (sum_over (f x) ys)) (exchanged f xs ys) ∙ sym (sum_over-sum (f x) (λ y. sum_over (λ z. f z y) xs) ys)

of_lists : (f : ℕ → ℕ → M3) (xs ys : List ℕ) → block_total (flat_map (λ x. map (f x) ys) xs) ≡ sum_over (λ x. sum_over (f x) ys) xs
of_lists f [] ys = refl
of_lists f (x ∷ xs) ys = block_total-append (map (f x) ys) (flat_map (λ z. map (f z) ys) xs) ∙ ap (sum_of_blocks (sum_over (f x) ys)) (of_lists f xs ys)

-- ---- transposed sums
total_transposed : (f : ℕ → M3) (xs : List ℕ) → sum_over (λ x. transposed (f x)) xs ≡ transposed (sum_over f xs)
total_transposed f [] = refl
total_transposed f (x ∷ xs) = ap (sum_of_blocks (transposed (f x))) (total_transposed f xs)

-- ---- a contribution
pub record IsSymmetric (part : Contribution) : Type 0 where
  pub turns : (i j : ℕ) → part.blocks j i ≡ transposed (part.blocks i j)

abbrev placed : Contribution → (row column i j : ℕ) → M3
placed part row column i j =
    if (slice_index part.nodes i == row) && (slice_index part.nodes j == column) then part.blocks i j else no_block

placed_turned : (part : Contribution) → IsSymmetric part → (row column i j : ℕ) → placed part column row j i ≡ transposed (placed part row column i j)
placed_turned part h row column i j = either (slice_index part.nodes i == row) (slice_index part.nodes j == column)
  where
    either : (p q : Bool) → (if q && p then part.blocks j i else no_block) ≡ transposed (if p && q then part.blocks i j else no_block)
    either true true = h.turns i j
    either true false = refl
    either false true = refl
    either false false = refl

stiffness_turned : (part : Contribution) → IsSymmetric part → (row column : ℕ) → stiffness_at column row part ≡ transposed (stiffness_at row column part)
stiffness_turned part h row column =
    let each : List ℕ = range_with_len 0 (length part.nodes) in
    of_lists (placed part column row) each each
    ∙ exchanged (placed part column row) each each
    ∙ sum_over-same (λ i. sum_over (λ j. placed part column row j i) each) (λ i. transposed (sum_over (placed part row column i) each)) each (λ i.
    sum_over-same (λ j. placed part column row j i) (λ j. transposed (placed part row column i j)) each (placed_turned part h row column i)
    ∙ total_transposed (placed part row column i) each)
    ∙ total_transposed (λ i. sum_over (placed part row column i) each) each
    ∙ ap transposed (sym (of_lists (placed part row column) each each))

-- ---- the sums, and the matrix
sums_turned : (parts : List Contribution) → All IsSymmetric parts → (row column : ℕ) → block_total (map (stiffness_at column row) parts) ≡ transposed (block_total (map (stiffness_at row column) parts))
sums_turned [] h row column = refl
sums_turned (part ∷ parts) h row column =
    λ i. sum_of_blocks (stiffness_turned part (All-head IsSymmetric part parts h) row column i) (sums_turned parts (All-tail IsSymmetric part parts h) row column i)

unit_turned : (row column : ℕ) → unit_block column row ≡ transposed (unit_block row column)
unit_turned row column = ap (λ (same : Bool). if same then unit_times (pos 1) else no_block) (same_turned row column) ∙ either (row == column)
  where
    same_turned : (a b : ℕ) → (b == a) ≡ (a == b)
    same_turned a b = grind (arith, nat_tests)

    either : (same : Bool) → (if same then unit_times (pos 1) else no_block) ≡ transposed (if same then unit_times (pos 1) else no_block)
    either true = refl
    either false = refl

cut_turned : (fixed : List Bool) (table : Table) → ((row column : ℕ) → table column row ≡ transposed (table row column)) → (row column : ℕ) → cut_table fixed table column row ≡ transposed (cut_table fixed table row column)
cut_turned fixed table h row column = either (slice_index_or fixed row false) (slice_index_or fixed column false)
  where
    either : (p q : Bool) → (if q || p then unit_block column row else cut_block (table column row)) ≡ transposed (if p || q then unit_block row column else cut_block (table row column))
    either true true = unit_turned row column
    either true false = unit_turned row column
    either false true = unit_turned row column
    either false false = ap cut_block (h row column)

-- ---- each contribution
inertia_symmetric : (s : Setup) (frame : FrameTerms) (places : List V3) (node : ℕ) → IsSymmetric (inertia_contribution s frame places node)
inertia_symmetric s frame places node = record { turns = λ i j. refl }

elastic_symmetric : (places : List V3) (tet : ElasticTet) → IsSymmetric (elastic_contribution places tet)
elastic_symmetric places tet = record { turns = block_at-comm tet.rest tet.mu tet.lambda (edge_matrix (corners_at places tet.nodes)) }

entry_turned : (stiffness a b : ℤ) → barrier.entry stiffness b a ≡ barrier.entry stiffness a b
entry_turned stiffness a b = ap (λ (product : ℤ). cut_of 86 (floor_of product (pos 4194304))) (ring (stiffness ∷ a ∷ b ∷ []) (v 0 ⊗ v 2 ⊗ v 1) (v 0 ⊗ v 1 ⊗ v 2) tt)

entries_turned : (stiffness : ℤ) (a b : V3) → barrier.entries stiffness b a ≡ transposed (barrier.entries stiffness a b)
entries_turned k a b = λ i. columns
    (vector (entry_turned k a.x b.x i) (entry_turned k a.x b.y i) (entry_turned k a.x b.z i))
    (vector (entry_turned k a.y b.x i) (entry_turned k a.y b.y i) (entry_turned k a.y b.z i))
    (vector (entry_turned k a.z b.x i) (entry_turned k a.z b.y i) (entry_turned k a.z b.z i))

barrier_symmetric : (numbers : Numbers) (places : List V3) (parts : PartPair) → IsSymmetric (barrier_contribution numbers places parts)
barrier_symmetric numbers places parts =
    let near = near_of_parts places parts in
    let signed = signed_weights (length parts.left) near.weights in
    let lever_of : ℕ → V3 = λ k. barrier.lever (signed_sum signed (points_of_parts places parts)) (slice_index_or signed k (pos 0)) in
    record { turns = λ i j. entries_turned (if_active numbers.dhat near (barrier.stiffness_at numbers.kappa)) (lever_of i) (lever_of j) }

friction_symmetric : (numbers : Numbers) (places : List V3) (contact : LaggedContact) → IsSymmetric (friction_contribution numbers places contact)
friction_symmetric numbers places contact =
    let drag = drag_of contact numbers.friction numbers.slip (slide_of contact (corners_at places contact.nodes)) in
    let weight : ℕ → ℤ = λ k. slice_index_or contact.signed k (pos 0) in
    record { turns = λ i j. ap (λ (product : ℤ). unit_times (cut_of 86 (floor_of product (pos 281474976710656)))) (swapped drag (weight i) (weight j)) }
  where
    swapped : (drag a b : ℤ) → drag *ℤ b *ℤ a ≡ drag *ℤ a *ℤ b
    swapped drag a b = ring (drag ∷ a ∷ b ∷ []) (v 0 ⊗ v 2 ⊗ v 1) (v 0 ⊗ v 1 ⊗ v 2) tt

all_symmetric : (s : Setup) (frame : FrameTerms) (places : List V3) → All IsSymmetric (contributions s frame places)
all_symmetric s frame places =
    let of_nodes = map (inertia_contribution s frame places) (node_positions s.mesh) in
    let of_tets = map (elastic_contribution places) (elastic_tets s) in
    let of_pairs = map (barrier_contribution s.numbers places) (close_parts s places) in
    let of_contacts = map (friction_contribution s.numbers places) frame.contacts in
    All-append IsSymmetric ((of_nodes ++ of_tets) ++ of_pairs) of_contacts
    (All-append IsSymmetric (of_nodes ++ of_tets) of_pairs
    (All-append IsSymmetric of_nodes of_tets
    (All-map IsSymmetric (inertia_contribution s frame places) (node_positions s.mesh) (λ k d l. inertia_symmetric s frame places _))
    (All-map IsSymmetric (elastic_contribution places) (elastic_tets s) (λ k d l. elastic_symmetric places _)))
    (All-map IsSymmetric (barrier_contribution s.numbers places) (close_parts s places) (λ k d l. barrier_symmetric s.numbers places _)))
    (All-map IsSymmetric (friction_contribution s.numbers places) frame.contacts (λ k d l. friction_symmetric s.numbers places (get_or frame.contacts k d)))

pub matrix_turned : (s : Setup) (frame : FrameTerms) (places : List V3) (row column : ℕ) → matrix s frame places column row ≡ transposed (matrix s frame places row column)
matrix_turned s frame places row column = cut_turned s.fixed (stiffness s frame places) (sums_turned (contributions s frame places) (all_symmetric s frame places)) row column
