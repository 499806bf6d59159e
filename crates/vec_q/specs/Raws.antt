-- Vectors and matrices of fixed point by their raw numbers.
use Rattle.std.specs.Prelude.{ℕ}
use Rattle.space3.specs.declared.vectors.V3.{V3}
use Rattle.space3.specs.Vectors.{vector}
use Rattle.vec_q.specs.declared.vectors.VecQ.{VecQ}
use Rattle.vec_q.specs.declared.matrices.MatQ.{MatQ}
use Rattle.vec_q.specs.Matrices.{M3, columns}

-- the vector of the raw numbers
abbrev pub raws : {F B : ℕ} → VecQ F B → V3
raws v = vector v.x.raw v.y.raw v.z.raw

-- the matrix of the raw numbers
abbrev pub raw_columns : {F B : ℕ} → MatQ F B → M3
raw_columns m = columns (raws m.first) (raws m.second) (raws m.third)
