-- Tetrahedra of worked cases.
use Rattle.std.specs.Prelude.{ℤ, pos, List, [], ◌∷◌}
use Rattle.space3.specs.declared.vectors.V3.{V3}
use Rattle.space3.specs.Vectors.{origin, vector}

-- a tetrahedron with three edges along the axes, the first of this length and the others of 100
abbrev pub corner_of : ℤ → List V3
corner_of length = origin ∷ vector length (pos 0) (pos 0) ∷ vector (pos 0) (pos 100) (pos 0) ∷ vector (pos 0) (pos 0) (pos 100) ∷ []
