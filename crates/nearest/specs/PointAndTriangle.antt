-- The candidates of a point and a triangle.
use Rattle.std.specs.Prelude.{ℤ, pos, ◌-ℤ◌, ◌*ℤ◌, List, [], ◌∷◌, Option, Some, None}
use Rattle.space3.specs.declared.vectors.V3.{V3}
use Rattle.space3.specs.Vectors.{difference, dot_product, cross_product, squared_length}
use Rattle.space3.specs.Mesh.{place_of}
use Rattle.nearest.specs.Candidates.{Candidate}
use Rattle.nearest.specs.Feet.{Foot, foot_on, foot_candidate, points_candidate}

-- the point against the inside of the triangle, by the ways r = p − a, e1 = b − a and e2 = c − a
abbrev pub face_by : V3 → V3 → V3 → Candidate
face_by r e1 e2 =
    let n = cross_product e1 e2 in
    let of_b = dot_product (cross_product r e2) n in
    let of_c = dot_product (cross_product e1 r) n in record {
      left = Some (squared_length n) ∷ [];
      right = Some (squared_length n -ℤ of_b -ℤ of_c) ∷ Some of_b ∷ Some of_c ∷ [];
      num = dot_product r n *ℤ dot_product r n;
      den = squared_length n;
    }

abbrev pub face_candidate : V3 → V3 → V3 → V3 → Candidate
face_candidate p a b c = face_by (difference p a) (difference b a) (difference c a)

-- the point against the inside of an edge of the triangle
abbrev pub side_candidate : Foot → List (Option ℤ) → Candidate
side_candidate foot weights = foot_candidate foot (Some foot.den ∷ []) weights

-- the point against a corner
abbrev pub corner_candidate : V3 → V3 → List (Option ℤ) → Candidate
corner_candidate p corner weights = points_candidate p corner (Some (pos 1) ∷ []) weights

-- the edges ab, ac and bc, the corners
abbrev pub border_candidates : V3 → V3 → V3 → V3 → List Candidate
border_candidates p a b c =
    let ab = foot_on p a b in
    let ac = foot_on p a c in
    let bc = foot_on p b c in
    side_candidate ab (Some ab.start ∷ Some ab.end ∷ None ∷ [])
    ∷ side_candidate ac (Some ac.start ∷ None ∷ Some ac.end ∷ [])
    ∷ side_candidate bc (None ∷ Some bc.start ∷ Some bc.end ∷ [])
    ∷ corner_candidate p a (Some (pos 1) ∷ None ∷ None ∷ [])
    ∷ corner_candidate p b (None ∷ Some (pos 1) ∷ None ∷ [])
    ∷ corner_candidate p c (None ∷ None ∷ Some (pos 1) ∷ [])
    ∷ []

-- the triangle's inside, then its border
abbrev pub triangle_candidates : V3 → V3 → V3 → V3 → List Candidate
triangle_candidates p a b c = face_candidate p a b c ∷ border_candidates p a b c

-- the same, for the list of the corners
abbrev pub vt_candidates : V3 → List V3 → List Candidate
vt_candidates p t = triangle_candidates p (place_of t 0) (place_of t 1) (place_of t 2)
