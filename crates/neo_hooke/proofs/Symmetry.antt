-- Blocks in the other order.
use Rattle.std.proofs.Common.{◌≡◌, ◌∙◌, ◌^◌, ℕ, ℤ, pos, ◌+ℤ◌, ◌*ℤ◌, [], ◌∷◌, ap}
use Rattle.whole_laws.proofs.Ring.{ring, v, ◌⊕◌, ◌⊗◌}
use Rattle.num_q.specs.Rounding.{cut_of, floor_of}
use Rattle.space3.specs.declared.vectors.V3.{V3}
use Rattle.space3.specs.Vectors.{vector, dot_product}
use Rattle.vec_q.specs.Matrices.{M3, columns, transposed}
use Rattle.neo_hooke.specs.Rest.{RestShape}
use Rattle.neo_hooke.specs.Block.{at_node, block_at, block_of, log_slopes, stretch_entry, volume_entry}
use Rattle.neo_hooke.specs.FourNodes.{block_between}

dot_product-comm : (a b : V3) → dot_product b a ≡ dot_product a b
dot_product-comm a b =
    ring (a.x ∷ a.y ∷ a.z ∷ b.x ∷ b.y ∷ b.z ∷ []) (v 3 ⊗ v 0 ⊕ v 4 ⊗ v 1 ⊕ v 5 ⊗ v 2) (v 0 ⊗ v 3 ⊕ v 1 ⊗ v 4 ⊕ v 2 ⊗ v 5) tt

stretch_entry-comm : (rest : RestShape) (mu : ℤ) (i j : ℕ) → stretch_entry rest mu j i ≡ stretch_entry rest mu i j
stretch_entry-comm rest mu i j =
    let rows = transposed rest.adj in
    ap (λ (product : ℤ). floor_of (pos 8 *ℤ mu *ℤ product) rest.r) (dot_product-comm (at_node rows i) (at_node rows j))

-- an entry, from the vectors of the two nodes
entry : (stretch stiffness h l : ℤ) → cut_of 86 (stretch +ℤ volume_entry stiffness l h) ≡ cut_of 86 (stretch +ℤ volume_entry stiffness h l)
entry stretch stiffness h l =
    ap (λ (product : ℤ). cut_of 86 (stretch +ℤ floor_of (stiffness *ℤ product) (pos (2 ^ 45)))) (ring (h ∷ l ∷ []) (v 1 ⊗ v 0) (v 0 ⊗ v 1) tt)

block_of-comm : (stretch stiffness : ℤ) (h l : V3) → block_of stretch stiffness l h ≡ transposed (block_of stretch stiffness h l)
block_of-comm s k h l = λ i. columns
    (vector (entry s k h.x l.x i) (entry (pos 0) k h.x l.y i) (entry (pos 0) k h.x l.z i))
    (vector (entry (pos 0) k h.y l.x i) (entry s k h.y l.y i) (entry (pos 0) k h.y l.z i))
    (vector (entry (pos 0) k h.z l.x i) (entry (pos 0) k h.z l.y i) (entry s k h.z l.z i))

pub block_at-comm : (rest : RestShape) (mu lambda : ℤ) (edges : M3) (i j : ℕ) → block_at rest mu lambda edges j i ≡ transposed (block_at rest mu lambda edges i j)
unfolding block_at
block_at-comm rest mu lambda edges i j =
    let stiffness = rest.r *ℤ (mu +ℤ lambda) in
    ap (λ (stretch : ℤ). block_of stretch stiffness (log_slopes edges j) (log_slopes edges i)) (stretch_entry-comm rest mu i j)
    ∙ block_of-comm (stretch_entry rest mu i j) stiffness (log_slopes edges i) (log_slopes edges j)

pub block_between-comm : (r mu lambda : ℤ) (first second h l : V3) → block_between r mu lambda second first l h ≡ transposed (block_between r mu lambda first second h l)
block_between-comm r mu lambda first second h l =
    let stretch = λ (product : ℤ). floor_of (pos 8 *ℤ mu *ℤ product) r in
    let stiffness = r *ℤ (mu +ℤ lambda) in
    ap (λ (product : ℤ). block_of (stretch product) stiffness l h) (dot_product-comm first second)
    ∙ block_of-comm (stretch (dot_product first second)) stiffness h l
