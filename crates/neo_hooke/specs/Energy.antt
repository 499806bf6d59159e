-- The elastic energy of a tetrahedron, after the compressible neo-Hookean density
-- mu / 2 (tr F'F - 3) - mu ln J + lambda / 2 (ln J)^2. It is taken 48 times, with 6 volumes for R.
use Rattle.std.specs.Prelude.{ℤ, pos, ◌^◌, ◌+ℤ◌, ◌-ℤ◌, ◌*ℤ◌, neg_ℤ, List}
use Rattle.num_q.specs.Rounding.{cut_of, floor_of}
use Rattle.space3.specs.declared.vectors.V3.{V3}
use Rattle.vec_q.specs.Matrices.{M3}
use Rattle.neo_hooke.specs.Rest.{RestShape, edge_matrix}
use Rattle.neo_hooke.specs.Strain.{log_volume, squared_strain}

-- 4 mu (S / R - 3 R)
abbrev pub stretch_energy : (mu r squares : ℤ) → ℤ
stretch_energy mu r squares =
    let stretch = floor_of ((squares -ℤ pos 3 *ℤ (r *ℤ r)) *ℤ pos (2 ^ 24)) r in
    floor_of (mu *ℤ cut_of 95 stretch) (pos (2 ^ 22))

-- - 8 mu R ln J
abbrev pub shear_energy : (mu r log : ℤ) → ℤ
shear_energy mu r log = floor_of (neg_ℤ (mu *ℤ r *ℤ log)) (pos (2 ^ 21))

-- 4 lambda R (ln J)^2
abbrev pub volume_energy : (lambda r log : ℤ) → ℤ
volume_energy lambda r log = floor_of (lambda *ℤ r *ℤ floor_of (log *ℤ log) (pos (2 ^ 24))) (pos (2 ^ 22))

-- the sum of the three
abbrev pub energy_of : RestShape → (mu lambda : ℤ) → (edges : M3) → ℤ
energy_of rest mu lambda edges =
    let log = log_volume rest edges in
    cut_of 90 (stretch_energy mu rest.r (squared_strain rest edges) +ℤ shear_energy mu rest.r log +ℤ volume_energy lambda rest.r log)

-- the elastic energy at four places
abbrev pub elastic_energy : RestShape → (mu lambda : ℤ) → List V3 → ℤ
elastic_energy rest mu lambda x = energy_of rest mu lambda (edge_matrix x)
