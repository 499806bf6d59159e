-- The barrier's part of the matrix: a product of two vectors, times a number that is not negative.
use Rattle.std.specs.Prelude.{ℕ, ◌^◌, ℤ, pos, ◌+ℤ◌, ◌*ℤ◌, neg_ℤ, List, [], ◌∷◌, map, slice_index_or}
use Rattle.num_q.specs.Rounding.{floor_of, cut_of}
use Rattle.space3.specs.declared.vectors.V3.{V3}
use Rattle.space3.specs.Vectors.{vector}
use Rattle.vec_q.specs.Matrices.{M3, columns}
use Rattle.vec_q.specs.Rows.{rows_of}
use Rattle.nearest.specs.SignedWeights.{signed_weights, signed_sum}
use Rattle.near_pair.specs.declared.near.Near.{Near}
use Rattle.barrier_term.specs.Barrier.{depth, steepness, if_active}

-- −2·ln(d/e) + e/d − 1 + (e − d)·(2d + e)/d² with 24 fraction bits: the second derivative of −(e − d)²·ln(d/e) in d
abbrev pub curvature : ℕ → ℕ → ℤ
curvature d e =
    neg_ℤ (steepness d e) +ℤ floor_of (depth d e *ℤ (pos 2 *ℤ pos d +ℤ pos e) *ℤ pos (2 ^ 24)) (pos d *ℤ pos d)

abbrev pub stiffness_at : ℤ → ℕ → ℕ → ℤ
stiffness_at kappa d e = cut_of 64 (floor_of (kappa *ℤ curvature d e) (pos (2 ^ 24)))

-- the way between the nearest points, times a signed weight
abbrev pub lever : V3 → ℤ → V3
lever way weight =
    let along = λ (c : ℤ). floor_of (weight *ℤ c) (pos (2 ^ 20)) in vector (along way.x) (along way.y) (along way.z)

-- the entry of two components
abbrev pub entry : ℤ → ℤ → ℤ → ℤ
entry stiffness a b = cut_of 86 (floor_of (stiffness *ℤ a *ℤ b) (pos (2 ^ 22)))

-- the entries of two vectors: rows for the first, columns for the second
abbrev pub entries : ℤ → V3 → V3 → M3
entries stiffness a b =
    let column = λ (c : ℤ). vector (entry stiffness a.x c) (entry stiffness a.y c) (entry stiffness a.z c) in
    columns (column b.x) (column b.y) (column b.z)

-- the block of the points i and j
abbrev pub barrier_block : (kappa dhat : ℤ) (near : Near) (split : ℕ) (points : List V3) (i j : ℕ) → M3
barrier_block kappa dhat near split points i j =
    let signed = signed_weights split near.weights in
    let lever_of = λ (k : ℕ). lever (signed_sum signed points) (slice_index_or signed k (pos 0)) in
    entries (if_active dhat near (stiffness_at kappa)) (lever_of i) (lever_of j)

-- the blocks of a point with each, by their rows, from the stiffness, the way and the signed weights
abbrev pub blocks_of : (stiffness : ℤ) (way : V3) (signed : List ℤ) (i : ℕ) → List (List (List ℤ))
blocks_of stiffness way signed i =
    let lever_of = λ (k : ℕ). lever way (slice_index_or signed k (pos 0)) in
    map (λ j. rows_of (entries stiffness (lever_of i) (lever_of j))) (0 ∷ 1 ∷ 2 ∷ 3 ∷ [])

-- the blocks of each two points, by their rows
abbrev pub barrier_blocks : (kappa dhat : ℤ) (near : Near) (split : ℕ) (points : List V3) → List (List (List (List ℤ)))
barrier_blocks kappa dhat near split points =
    map (λ i. map (λ j. rows_of (barrier_block kappa dhat near split points i j)) (0 ∷ 1 ∷ 2 ∷ 3 ∷ [])) (0 ∷ 1 ∷ 2 ∷ 3 ∷ [])
