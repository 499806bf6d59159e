-- Tetrahedra that are moved as a whole.
use Rattle.std.proofs.Common.{◌≡◌, ℤ, ◌+ℤ◌, ◌-ℤ◌, List, [], ◌∷◌, length, map, arith}
use Rattle.std.proofs.lemmas.Int.{ints}
use Rattle.space3.specs.declared.vectors.V3.{V3}
use Rattle.space3.specs.Vectors.{vector, sum_of, difference}
use Rattle.vec_q.specs.Matrices.{columns}
use Rattle.neo_hooke.specs.Rest.{edge_matrix}

-- an edge stays
difference-shifted : (d a b : V3) → difference (sum_of d b) (sum_of d a) ≡ difference b a
difference-shifted d a b = λ i. vector (each d.x a.x b.x i) (each d.y a.y b.y i) (each d.z a.z b.z i)
  where
    each : (d a b : ℤ) → (d +ℤ b) -ℤ (d +ℤ a) ≡ b -ℤ a
    each d a b = omega (arith, ints)

pub edge_matrix-shifted : (d : V3) (x : List V3) → length x ≡ 4 → edge_matrix (map (sum_of d) x) ≡ edge_matrix x
edge_matrix-shifted d [] h = absurd (omega arith)
edge_matrix-shifted d (a ∷ []) h = absurd (omega arith)
edge_matrix-shifted d (a ∷ b ∷ []) h = absurd (omega arith)
edge_matrix-shifted d (a ∷ b ∷ c ∷ []) h = absurd (omega arith)
edge_matrix-shifted d (a ∷ b ∷ c ∷ e ∷ xs) h = λ i. columns (difference-shifted d a b i) (difference-shifted d a c i) (difference-shifted d a e i)
