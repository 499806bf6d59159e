-- Without a stiffness each block is 0.
use Rattle.std.proofs.Common.{◌≡◌, ◌^◌, ℤ, pos, ◌*ℤ◌, [], ◌∷◌, ap}
use Rattle.whole_laws.proofs.Ring.{ring, v, num, ◌⊗◌}
use Rattle.num_q.specs.Rounding.{cut_of, floor_of}
use Rattle.space3.specs.declared.vectors.V3.{V3}
use Rattle.space3.specs.Vectors.{vector}
use Rattle.vec_q.specs.Matrices.{columns, unit_times}
use Rattle.barrier_term.specs.Blocks.{entries, entry}

no_entry : (a b : ℤ) → entry (pos 0) a b ≡ pos 0
no_entry a b = ap (λ (z : ℤ). cut_of 86 (floor_of z (pos (2 ^ 22)))) (nothing a b)
  where
    nothing : (a b : ℤ) → pos 0 *ℤ a *ℤ b ≡ pos 0
    nothing a b = ring (a ∷ b ∷ []) (num (pos 0) ⊗ v 0 ⊗ v 1) (num (pos 0)) tt

pub no_entries : (a b : V3) → entries (pos 0) a b ≡ unit_times (pos 0)
no_entries a b = λ i. columns (column b.x i) (column b.y i) (column b.z i)
  where
    column : (c : ℤ) → vector (entry (pos 0) a.x c) (entry (pos 0) a.y c) (entry (pos 0) a.z c) ≡ vector (pos 0) (pos 0) (pos 0)
    column c = λ i. vector (no_entry a.x c i) (no_entry a.y c i) (no_entry a.z c i)
