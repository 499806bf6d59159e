-- Faces that stand beside each other with the same corners.
use Rattle.std.specs.Prelude.{ℕ, Bool, false, List, [], ◌∷◌, length, map, take, nat_le, ◌==◌, if◌then◌else◌}
use Rattle.boundary.specs.declared.faces.Face.{Face}
use Rattle.boundary.specs.Faces.{has_corners, have_same_turn}

-- a face put before groups: into the first group, where that has its corners, else alone
abbrev pub put_before : Face → List (List Face) → List (List Face)
put_before f [] = (f ∷ []) ∷ []
put_before f ([] ∷ groups) = (f ∷ []) ∷ groups
put_before f ((g ∷ gs) ∷ groups) =
    if has_corners f.corners g then (f ∷ g ∷ gs) ∷ groups else (f ∷ []) ∷ (g ∷ gs) ∷ groups

-- a list of faces, cut between two that have different corners
abbrev pub groups_of : List Face → List (List Face)
groups_of [] = []
groups_of (f ∷ fs) = put_before f (groups_of fs)

-- the corners of a group
abbrev pub first_corners : List Face → List ℕ
first_corners [] = []
first_corners (f ∷ fs) = f.corners

-- the tetrahedra of the first faces, so many
abbrev pub first_tets : ℕ → List Face → List ℕ
first_tets n group = take n (map (λ f. f.tet) group)

abbrev pub has_one : List Face → Bool
has_one group = length group == 1

abbrev pub has_three : List Face → Bool
has_three group = nat_le 3 (length group)

-- two faces in the same turn
abbrev pub are_two_alike : List Face → Bool
are_two_alike [] = false
are_two_alike (f ∷ []) = false
are_two_alike (f ∷ g ∷ []) = have_same_turn f.turn g.turn
are_two_alike (f ∷ g ∷ h ∷ rest) = false
