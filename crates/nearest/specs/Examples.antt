-- Nearest points in small numbers.
use Rattle.std.specs.Prelude.{pos, negsuc, List, [], ◌∷◌}
use Rattle.space3.specs.declared.vectors.V3.{V3}
use Rattle.space3.specs.Vectors.{origin, vector}
use Rattle.space3.specs.Mesh.{place_of}
use Rattle.nearest.specs.Candidates.{Candidate}
use Rattle.nearest.specs.Feet.{foot_on, foot_candidate}
use Rattle.nearest.specs.PointAndTriangle.{face_candidate}
use Rattle.nearest.specs.TwoEdges.{first_alone, both_ends}

-- a point over a triangle, at a height of 9
abbrev pub high_point : V3
high_point = vector (pos 1) (pos 1) (pos 9)

abbrev pub flat_triangle : List V3
flat_triangle = vector (negsuc 49) (negsuc 49) (pos 0) ∷ vector (pos 50) (negsuc 49) (pos 0) ∷ vector (pos 0) (pos 50) (pos 0) ∷ []

-- two parallel edges, 5 apart, of which the second begins before the first
abbrev pub low_edge : List V3
low_edge = origin ∷ vector (pos 10) (pos 0) (pos 0) ∷ []

abbrev pub high_edge : List V3
high_edge = vector (negsuc 4) (pos 0) (pos 5) ∷ vector (pos 5) (pos 0) (pos 5) ∷ []

-- the point against the inside of the triangle
abbrev pub over_triangle : V3 → List V3 → Candidate
over_triangle p t = face_candidate p (place_of t 0) (place_of t 1) (place_of t 2)

-- the first end of the first edge against the second edge
abbrev pub from_first_end : List V3 → List V3 → Candidate
from_first_end a b =
    let foot = foot_on (place_of a 0) (place_of b 0) (place_of b 1) in
    foot_candidate foot (first_alone foot.den) (both_ends foot)
