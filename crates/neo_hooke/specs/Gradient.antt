-- The gradient of the elastic energy: what pulls at the four nodes of a tetrahedron.
use Rattle.std.specs.Prelude.{ℤ, pos, ◌^◌, ◌+ℤ◌, ◌-ℤ◌, ◌*ℤ◌, neg_ℤ, List, [], ◌∷◌}
use Rattle.num_q.specs.Rounding.{cut_of, floor_of}
use Rattle.space3.specs.declared.vectors.V3.{V3}
use Rattle.space3.specs.Vectors.{vector}
use Rattle.vec_q.specs.Matrices.{M3, columns, cofactors, determinant_of}
use Rattle.neo_hooke.specs.Rest.{RestShape, edge_matrix}
use Rattle.neo_hooke.specs.Strain.{log_volume, strain_gradient}

-- (lambda ln J - mu) R / V, with 24 fraction bits: how the energy changes with the volume, over 8
abbrev pub pressure : (mu lambda r log volume : ℤ) → ℤ
pressure mu lambda r log volume = cut_of 90 (floor_of ((lambda *ℤ log -ℤ mu *ℤ pos (2 ^ 24)) *ℤ r) volume)

-- a component of what pulls at a node: that of the stretch and that of the volume
abbrev pub elastic_pull : (mu r pressure strain cofactor : ℤ) → ℤ
elastic_pull mu r pressure strain cofactor =
    cut_of 90 (floor_of (pos 8 *ℤ mu *ℤ strain) r +ℤ floor_of (pressure *ℤ cofactor) (pos (2 ^ 21)))

abbrev pub elastic_pulls : (mu r pressure : ℤ) → (strain cofactor : V3) → V3
elastic_pulls mu r pressure strain cofactor = vector
    (elastic_pull mu r pressure strain.x cofactor.x)
    (elastic_pull mu r pressure strain.y cofactor.y)
    (elastic_pull mu r pressure strain.z cofactor.z)

-- what pulls at the last three nodes, as columns
unfoldable pub pulls_of : RestShape → (mu lambda : ℤ) → (edges : M3) → M3
pulls_of rest mu lambda edges =
    let strain = strain_gradient rest edges in
    let across = cofactors edges in
    let outward = pressure mu lambda rest.r (log_volume rest edges) (determinant_of edges) in
    columns
    (elastic_pulls mu rest.r outward strain.first across.first)
    (elastic_pulls mu rest.r outward strain.second across.second)
    (elastic_pulls mu rest.r outward strain.third across.third)

-- minus the sum of what pulls at the other three, cut
abbrev pub balance_of : M3 → V3
balance_of m = vector
    (cut_of 90 (neg_ℤ (m.first.x +ℤ m.second.x +ℤ m.third.x)))
    (cut_of 90 (neg_ℤ (m.first.y +ℤ m.second.y +ℤ m.third.y)))
    (cut_of 90 (neg_ℤ (m.first.z +ℤ m.second.z +ℤ m.third.z)))

-- what pulls at the four nodes; at the first, what balances the others
abbrev pub with_balance : M3 → List V3
with_balance pulls = balance_of pulls ∷ pulls.first ∷ pulls.second ∷ pulls.third ∷ []

-- the gradient at four places, one vector a node
abbrev pub elastic_gradient : RestShape → (mu lambda : ℤ) → List V3 → List V3
elastic_gradient rest mu lambda x = with_balance (pulls_of rest mu lambda (edge_matrix x))
