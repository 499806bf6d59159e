-- Inertia: a node wants to go on as it moved, pulled by gravity. Lengths are in 1/256 grid unit.
use Rattle.std.specs.Prelude.{ℤ, pos, ◌*ℤ◌}
use Rattle.num_q.specs.Rounding.{floor_of, cut_of}
use Rattle.space3.specs.declared.vectors.V3.{V3}
use Rattle.space3.specs.Vectors.{vector, sum_of, difference, multiple, dot_product}
use Rattle.vec_q.specs.Matrices.{M3, unit_times}

-- where a node would be without forces: as far from its place as that is from the place before, and gravity
abbrev pub target_of : (gravity now before : V3) → V3
target_of gravity now before = sum_of (difference (multiple (pos 512) now) (multiple (pos 256) before)) gravity

-- how far a place is from a target
abbrev pub offset_of : (place target : V3) → V3
offset_of place target = difference (multiple (pos 256) place) target

-- mass times the squared offset, in squared grid units
abbrev pub inertia_energy : (mass : ℤ) (place target : V3) → ℤ
inertia_energy mass place target =
    let offset = offset_of place target in
    cut_of 90 (floor_of (mass *ℤ dot_product offset offset) (pos 65536))

-- twice the mass times a component of the offset, in grid units
abbrev pub inertia_pull : (mass offset : ℤ) → ℤ
inertia_pull mass offset = cut_of 90 (floor_of (mass *ℤ offset) (pos 128))

-- the gradient of inertia at a node
abbrev pub inertia_gradient : (mass : ℤ) (place target : V3) → V3
inertia_gradient mass place target =
    let offset = offset_of place target in
    vector (inertia_pull mass offset.x) (inertia_pull mass offset.y) (inertia_pull mass offset.z)

-- what inertia adds to the matrix at a node: twice its mass, in each direction
abbrev pub inertia_block : (mass : ℤ) → M3
inertia_block mass = unit_times (cut_of 86 (pos 2 *ℤ mass))
