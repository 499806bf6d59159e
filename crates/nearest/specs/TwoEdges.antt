-- The candidates of two edges.
use Rattle.std.specs.Prelude.{ℤ, pos, ◌-ℤ◌, ◌*ℤ◌, List, [], ◌∷◌, Option, Some, None}
use Rattle.space3.specs.declared.vectors.V3.{V3}
use Rattle.space3.specs.Vectors.{difference, dot_product, cross_product, squared_length}
use Rattle.space3.specs.Mesh.{place_of}
use Rattle.nearest.specs.Candidates.{Candidate}
use Rattle.nearest.specs.Feet.{Foot, foot_on, foot_candidate, points_candidate}

-- the insides of both edges, by the ways r = b0 − a0, u = a1 − a0 and v = b1 − b0
abbrev pub inner_by : V3 → V3 → V3 → Candidate
inner_by r u v =
    let n = cross_product u v in
    let of_a1 = dot_product (cross_product r v) n in
    let of_b1 = dot_product (cross_product r u) n in record {
      left = Some (squared_length n -ℤ of_a1) ∷ Some of_a1 ∷ [];
      right = Some (squared_length n -ℤ of_b1) ∷ Some of_b1 ∷ [];
      num = dot_product r n *ℤ dot_product r n;
      den = squared_length n;
    }

abbrev pub inner_candidate : V3 → V3 → V3 → V3 → Candidate
inner_candidate a0 a1 b0 b1 = inner_by (difference b0 a0) (difference a1 a0) (difference b1 b0)

-- the first or the second of two points alone, with this weight
abbrev pub first_alone : ℤ → List (Option ℤ)
first_alone weight = Some weight ∷ None ∷ []

abbrev pub second_alone : ℤ → List (Option ℤ)
second_alone weight = None ∷ Some weight ∷ []

-- both ends of the edge on which the foot is
abbrev pub both_ends : Foot → List (Option ℤ)
both_ends foot = Some foot.start ∷ Some foot.end ∷ []

-- two ends
abbrev pub corner_candidates : V3 → V3 → V3 → V3 → List Candidate
corner_candidates a0 a1 b0 b1 =
    points_candidate a0 b0 (first_alone (pos 1)) (first_alone (pos 1))
    ∷ points_candidate a0 b1 (first_alone (pos 1)) (second_alone (pos 1))
    ∷ points_candidate a1 b0 (second_alone (pos 1)) (first_alone (pos 1))
    ∷ points_candidate a1 b1 (second_alone (pos 1)) (second_alone (pos 1))
    ∷ []

-- an end with the other edge's inside, two ends
abbrev pub end_candidates : V3 → V3 → V3 → V3 → List Candidate
end_candidates a0 a1 b0 b1 =
    let from_a0 = foot_on a0 b0 b1 in
    let from_a1 = foot_on a1 b0 b1 in
    let from_b0 = foot_on b0 a0 a1 in
    let from_b1 = foot_on b1 a0 a1 in
    foot_candidate from_a0 (first_alone from_a0.den) (both_ends from_a0)
    ∷ foot_candidate from_a1 (second_alone from_a1.den) (both_ends from_a1)
    ∷ foot_candidate from_b0 (both_ends from_b0) (first_alone from_b0.den)
    ∷ foot_candidate from_b1 (both_ends from_b1) (second_alone from_b1.den)
    ∷ corner_candidates a0 a1 b0 b1

-- the insides of both edges, then the others
abbrev pub edges_candidates : V3 → V3 → V3 → V3 → List Candidate
edges_candidates a0 a1 b0 b1 = inner_candidate a0 a1 b0 b1 ∷ end_candidates a0 a1 b0 b1

-- the same, for the lists of the ends
abbrev pub ee_candidates : List V3 → List V3 → List Candidate
ee_candidates a b = edges_candidates (place_of a 0) (place_of a 1) (place_of b 0) (place_of b 1)
