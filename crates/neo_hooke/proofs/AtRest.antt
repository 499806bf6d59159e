-- A tetrahedron that stands as it rests.
use Rattle.std.proofs.Common.{◌≡◌, ◌∙◌, ◌^◌, ◌<◌, ℕ, ℤ, pos, ◌+ℤ◌, ◌-ℤ◌, ◌*ℤ◌, neg_ℤ, ◌<ℤ◌, ◌≤ℤ◌, unsigned_abs, List, [], ◌∷◌, ap, arith}
use Rattle.std.proofs.lemmas.Int.{ints}
use Rattle.fixed_log.specs.declared.logarithm.TheConstants.{LN_2}
use Rattle.fixed_log.specs.Logarithm.{lg_of, ln_ratio_of}
use Rattle.whole_laws.proofs.ExactFloors.{floor-multiple}
use Rattle.whole_laws.proofs.Ring.{ring, v, num, neg, ◌⊕◌, ◌⊖◌, ◌⊗◌}
use Rattle.num_q.specs.Rounding.{cut_of, floor_of}
use Rattle.num_q.proofs.Bounds.{cut_same}
use Rattle.space3.specs.declared.vectors.V3.{V3}
use Rattle.space3.specs.Vectors.{origin, vector}
use Rattle.vec_q.specs.Matrices.{M3, columns, adjugate, cofactors, determinant_of, product_of, sum_of_squares, unit_times}
use Rattle.vec_q.proofs.Adjugates.{product-adjugate}
use Rattle.vec_q.proofs.Associative.{product-product}
use Rattle.neo_hooke.specs.Energy.{elastic_energy, shear_energy, stretch_energy, volume_energy}
use Rattle.neo_hooke.specs.Gradient.{elastic_gradient, elastic_pull, elastic_pulls, pressure, pulls_of, with_balance}
use Rattle.neo_hooke.specs.Rest.{IsModulus, edge_matrix, rest_shape}
use Rattle.neo_hooke.specs.Strain.{log_volume, squared_strain, strain_gradient}

-- ---- what energy and gradient share
ln_ratio-same : (m : ℕ) → ln_ratio_of m m ≡ pos 0
unfolding ln_ratio_of
ln_ratio-same m = ap (λ (z : ℤ). floor_of z (pos (2 ^ 32))) (none (lg_of m))
  where
    none : (k : ℕ) → (pos k -ℤ pos k) *ℤ LN_2 ≡ pos 0
    none k = omega (arith, ints)

-- the deformation gradient is the unit matrix
squared_strain-rest : (x : List V3) → squared_strain (rest_shape x) (edge_matrix x) ≡ pos 3 *ℤ (determinant_of (edge_matrix x) *ℤ determinant_of (edge_matrix x))
squared_strain-rest x = ap sum_of_squares (product-adjugate (edge_matrix x)) ∙ squares (determinant_of (edge_matrix x))
  where
    squares : (r : ℤ) → sum_of_squares (unit_times r) ≡ pos 3 *ℤ (r *ℤ r)
    squares r =
        ring (r ∷ [])
        ((v 0 ⊗ v 0 ⊕ num (pos 0) ⊗ num (pos 0) ⊕ num (pos 0) ⊗ num (pos 0)) ⊕ (num (pos 0) ⊗ num (pos 0) ⊕ v 0 ⊗ v 0 ⊕ num (pos 0) ⊗ num (pos 0)) ⊕ (num (pos 0) ⊗ num (pos 0) ⊕ num (pos 0) ⊗ num (pos 0) ⊕ v 0 ⊗ v 0))
        (num (pos 3) ⊗ (v 0 ⊗ v 0)) tt

-- ---- the energy
abbrev energy_from : (mu lambda r squares log : ℤ) → ℤ
energy_from mu lambda r squares log =
    cut_of 90 (stretch_energy mu r squares +ℤ shear_energy mu r log +ℤ volume_energy lambda r log)

nothing : (mu lambda r : ℤ) → pos 0 <ℤ r → energy_from mu lambda r (pos 3 *ℤ (r *ℤ r)) (pos 0) ≡ pos 0
nothing mu lambda r h =
    ap (cut_of 90) (λ i. stretch i +ℤ shear i +ℤ volume i)
  where
    same : (z : ℤ) → (z -ℤ z) *ℤ pos (2 ^ 24) ≡ r *ℤ pos 0
    same z = ring (z ∷ r ∷ []) ((v 0 ⊖ v 0) ⊗ num (pos (2 ^ 24))) (v 1 ⊗ num (pos 0)) tt

    stretch : stretch_energy mu r (pos 3 *ℤ (r *ℤ r)) ≡ pos 0
    stretch =
        ap (λ (z : ℤ). floor_of (mu *ℤ cut_of 95 z) (pos (2 ^ 22))) (ap (λ (z : ℤ). floor_of z r) (same (pos 3 *ℤ (r *ℤ r))) ∙ floor-multiple r (pos 0) h)
        ∙ ap (λ (z : ℤ). floor_of z (pos (2 ^ 22))) (ring (mu ∷ []) (v 0 ⊗ num (pos 0)) (num (pos 0)) tt)

    shear : shear_energy mu r (pos 0) ≡ pos 0
    shear = ap (λ (z : ℤ). floor_of (neg_ℤ z) (pos (2 ^ 21))) (ring (mu ∷ r ∷ []) (v 0 ⊗ v 1 ⊗ num (pos 0)) (num (pos 0)) tt)

    volume : volume_energy lambda r (pos 0) ≡ pos 0
    volume = ap (λ (z : ℤ). floor_of z (pos (2 ^ 22))) (ring (lambda ∷ r ∷ []) (v 0 ⊗ v 1 ⊗ num (pos 0)) (num (pos 0)) tt)

pub energy-rest : (mu lambda : ℤ) (x : List V3) → pos 0 <ℤ determinant_of (edge_matrix x) → elastic_energy (rest_shape x) mu lambda x ≡ pos 0
energy-rest mu lambda x h =
    let r = determinant_of (edge_matrix x) in
    (λ i. energy_from mu lambda r (squared_strain-rest x i) (ln_ratio-same (unsigned_abs r) i)) ∙ nothing mu lambda r h

-- ---- the gradient
-- R times the cofactors
abbrev multiple_of : ℤ → M3 → M3
multiple_of r m = product_of (unit_times r) m

strain_gradient-rest : (x : List V3) → strain_gradient (rest_shape x) (edge_matrix x) ≡ multiple_of (determinant_of (edge_matrix x)) (cofactors (edge_matrix x))
strain_gradient-rest x =
    let edges = edge_matrix x in
    product-product edges (adjugate edges) (cofactors edges) ∙ ap (λ (m : M3). product_of m (cofactors edges)) (product-adjugate edges)

abbrev pulls_from : (mu r outward : ℤ) → (strain across : M3) → M3
pulls_from mu r outward strain across = columns
    (elastic_pulls mu r outward strain.first across.first)
    (elastic_pulls mu r outward strain.second across.second)
    (elastic_pulls mu r outward strain.third across.third)

pressure-rest : (mu lambda r : ℤ) → IsModulus mu → pos 0 <ℤ r → pressure mu lambda r (pos 0) r ≡ neg_ℤ (mu *ℤ pos (2 ^ 24))
pressure-rest mu lambda r m h =
    ap (cut_of 90) (ap (λ (z : ℤ). floor_of z r) (ring (mu ∷ lambda ∷ r ∷ []) ((v 1 ⊗ num (pos 0) ⊖ v 0 ⊗ num (pos (2 ^ 24))) ⊗ v 2) (v 2 ⊗ neg (v 0 ⊗ num (pos (2 ^ 24)))) tt) ∙ floor-multiple r (neg_ℤ (mu *ℤ pos (2 ^ 24))) h)
    ∙ cut_same 90 (neg_ℤ (mu *ℤ pos (2 ^ 24))) (small mu m.low m.high)
  where
    small : (mu : ℤ) → pos 0 ≤ℤ mu → mu ≤ℤ pos 1073741824 → unsigned_abs (neg_ℤ (mu *ℤ pos (2 ^ 24))) < 2 ^ 90
    small mu h k = omega (arith, ints)

-- the pull of the stretch and that of the volume are opposite
pull-rest : (mu r k strain : ℤ) → pos 0 <ℤ r → strain ≡ r *ℤ k → elastic_pull mu r (neg_ℤ (mu *ℤ pos (2 ^ 24))) strain k ≡ pos 0
pull-rest mu r k strain h e =
    ap (cut_of 90) ((λ i. stretch i +ℤ volume i) ∙ ring (mu ∷ k ∷ []) (num (pos 8) ⊗ v 0 ⊗ v 1 ⊕ neg (num (pos 8) ⊗ v 0 ⊗ v 1)) (num (pos 0)) tt)
  where
    stretch : floor_of (pos 8 *ℤ mu *ℤ strain) r ≡ pos 8 *ℤ mu *ℤ k
    stretch =
        ap (λ (z : ℤ). floor_of (pos 8 *ℤ mu *ℤ z) r) e
        ∙ ap (λ (z : ℤ). floor_of z r) (ring (mu ∷ r ∷ k ∷ []) (num (pos 8) ⊗ v 0 ⊗ (v 1 ⊗ v 2)) (v 1 ⊗ (num (pos 8) ⊗ v 0 ⊗ v 2)) tt) ∙ floor-multiple r (pos 8 *ℤ mu *ℤ k) h

    volume : floor_of (neg_ℤ (mu *ℤ pos (2 ^ 24)) *ℤ k) (pos (2 ^ 21)) ≡ neg_ℤ (pos 8 *ℤ mu *ℤ k)
    volume =
        ap (λ (z : ℤ). floor_of z (pos (2 ^ 21))) (ring (mu ∷ k ∷ []) (neg (v 0 ⊗ num (pos (2 ^ 24))) ⊗ v 1) (num (pos (2 ^ 21)) ⊗ neg (num (pos 8) ⊗ v 0 ⊗ v 1)) tt)
        ∙ floor-multiple (pos (2 ^ 21)) (neg_ℤ (pos 8 *ℤ mu *ℤ k)) (record { lt = tt })

pulls-rest : (mu r : ℤ) (across : M3) → pos 0 <ℤ r → pulls_from mu r (neg_ℤ (mu *ℤ pos (2 ^ 24))) (multiple_of r across) across ≡ columns origin origin origin
pulls-rest mu r across h = λ i. columns (column across.first i) (column across.second i) (column across.third i)
  where
    column : (k : V3) → elastic_pulls mu r (neg_ℤ (mu *ℤ pos (2 ^ 24))) (vector (r *ℤ k.x +ℤ pos 0 *ℤ k.y +ℤ pos 0 *ℤ k.z) (pos 0 *ℤ k.x +ℤ r *ℤ k.y +ℤ pos 0 *ℤ k.z) (pos 0 *ℤ k.x +ℤ pos 0 *ℤ k.y +ℤ r *ℤ k.z)) k ≡ origin
    column k = λ i. vector
        (pull-rest mu r k.x _ h (ring (r ∷ k.x ∷ k.y ∷ k.z ∷ []) (v 0 ⊗ v 1 ⊕ num (pos 0) ⊗ v 2 ⊕ num (pos 0) ⊗ v 3) (v 0 ⊗ v 1) tt) i)
        (pull-rest mu r k.y _ h (ring (r ∷ k.x ∷ k.y ∷ k.z ∷ []) (num (pos 0) ⊗ v 1 ⊕ v 0 ⊗ v 2 ⊕ num (pos 0) ⊗ v 3) (v 0 ⊗ v 2) tt) i)
        (pull-rest mu r k.z _ h (ring (r ∷ k.x ∷ k.y ∷ k.z ∷ []) (num (pos 0) ⊗ v 1 ⊕ num (pos 0) ⊗ v 2 ⊕ v 0 ⊗ v 3) (v 0 ⊗ v 3) tt) i)

pub gradient-rest : (mu lambda : ℤ) (x : List V3) → IsModulus mu → pos 0 <ℤ determinant_of (edge_matrix x) → elastic_gradient (rest_shape x) mu lambda x ≡ origin ∷ origin ∷ origin ∷ origin ∷ []
unfolding pulls_of
gradient-rest mu lambda x m h =
    let edges = edge_matrix x in
    let r = determinant_of edges in
    let outward : pressure mu lambda r (log_volume (rest_shape x) edges) r ≡ neg_ℤ (mu *ℤ pos (2 ^ 24)) = ap (λ (log : ℤ). pressure mu lambda r log r) (ln_ratio-same (unsigned_abs r)) ∙ pressure-rest mu lambda r m h in
    ap with_balance ((λ i. pulls_from mu r (outward i) (strain_gradient-rest x i) (cofactors edges)) ∙ pulls-rest mu r (cofactors edges) h)
