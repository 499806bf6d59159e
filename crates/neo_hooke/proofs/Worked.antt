-- A tetrahedron that is stretched to twice its volume.
use Rattle.std.proofs.Common.{◌≡◌, ◌∙◌, ◌^◌, ℤ, pos, ◌+ℤ◌, ◌-ℤ◌, ◌*ℤ◌, neg_ℤ, [], ◌∷◌, refl, ap}
use lib.Count.{count_leading_zeros}
use Rattle.fixed_log.specs.declared.logarithm.TheConstants.{LN_2}
use Rattle.fixed_log.specs.Logarithm.{lg_bits, lg_of, ln_ratio_of, whole_lg}
use Rattle.num_q.specs.Rounding.{cut_of, floor_of}
use Rattle.space3.specs.Vectors.{vector}
use Rattle.vec_q.specs.Matrices.{M3, columns, cofactors, determinant_of}
use Rattle.neo_hooke.specs.Corners.{corner_of}
use Rattle.neo_hooke.specs.Energy.{elastic_energy, shear_energy, stretch_energy, volume_energy}
use Rattle.neo_hooke.specs.Gradient.{elastic_gradient, elastic_pulls, pressure, pulls_of, with_balance}
use Rattle.neo_hooke.specs.Rest.{RestShape, edge_matrix, rest_shape}
use Rattle.neo_hooke.specs.Strain.{squared_strain, strain_gradient}

lg_twice : lg_of 2000000 ≡ 351173447
unfolding lg_of whole_lg lg_bits count_leading_zeros
lg_twice = refl

lg_once : lg_of 1000000 ≡ 334396231
unfolding lg_of whole_lg lg_bits count_leading_zeros
lg_once = refl

pub ln_ratio-two : ln_ratio_of 2000000 1000000 ≡ pos 11629079
unfolding ln_ratio_of
ln_ratio-two = λ i. floor_of ((pos (lg_twice i) -ℤ pos (lg_once i)) *ℤ LN_2) (pos (2 ^ 32))

abbrev pub rest : RestShape
rest = rest_shape (corner_of (pos 100))

abbrev pub edges : M3
edges = edge_matrix (corner_of (pos 200))

pub energy-worked : elastic_energy rest (pos 1) (pos 1) (corner_of (pos 200)) ≡ pos 8376634
energy-worked = (λ i. cut_of 90 (stretch_energy (pos 1) rest.r (squared_strain rest edges) +ℤ shear_energy (pos 1) rest.r (ln_ratio-two i) +ℤ volume_energy (pos 1) rest.r (ln_ratio-two i))) ∙ refl

pub gradient-worked : elastic_gradient rest (pos 1) (pos 1) (corner_of (pos 200)) ≡
    vector (neg_ℤ (pos 147725)) (neg_ℤ (pos 55451)) (neg_ℤ (pos 55451)) ∷ vector (pos 147725) (pos 0) (pos 0) ∷ vector (pos 0) (pos 55451) (pos 0) ∷ vector (pos 0) (pos 0) (pos 55451) ∷ []
unfolding pulls_of
gradient-worked = ap with_balance (λ i. pulls_from (pressure (pos 1) (pos 1) rest.r (ln_ratio-two i) (determinant_of edges))) ∙ refl
  where
    pulls_from : ℤ → M3
    pulls_from outward =
        let strain = strain_gradient rest edges in
        let across = cofactors edges in
        columns
        (elastic_pulls (pos 1) rest.r outward strain.first across.first)
        (elastic_pulls (pos 1) rest.r outward strain.second across.second)
        (elastic_pulls (pos 1) rest.r outward strain.third across.third)
