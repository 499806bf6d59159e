-- Motions that show what certificates are for.
use Rattle.std.specs.Prelude.{ℕ, ℤ, pos, neg_ℤ, List, [], ◌∷◌}
use Rattle.space3.specs.declared.vectors.V3.{V3}
use Rattle.space3.specs.Vectors.{vector, origin}
use Rattle.safe_motion.specs.declared.motion.Move.{Move}
use Rattle.safe_motion.specs.declared.motion.Corners.{Corners}

abbrev pub minus : ℕ → ℤ
minus n = neg_ℤ (pos n)

abbrev pub moving : V3 → V3 → Move
moving a b = record { start = a; end = b }

-- a vertex that stays at the origin
abbrev pub still_point : Move
still_point = moving origin origin

abbrev pub still_vertex : List Move
still_vertex = still_point ∷ []

-- An edge that turns past the origin: no plane keeps it from the still vertex for the whole step.
abbrev pub turning_right : Move
turning_right = moving (vector (pos 20) (minus 10) (pos 0)) (vector (pos 1) (minus 22) (pos 0))

abbrev pub turning_left : Move
turning_left = moving (vector (minus 20) (minus 10) (pos 0)) (vector (minus 18) (pos 13) (pos 0))

abbrev pub turning_edge : List Move
turning_edge = turning_right ∷ turning_left ∷ []

-- An edge that swings steeply about a point close to the origin.
abbrev pub swinging_down : Move
swinging_down = moving (vector (minus 10) (minus 1) (pos 0)) (vector (minus 10) (minus 101) (pos 0))

abbrev pub swinging_up : Move
swinging_up = moving (vector (pos 10) (minus 1) (pos 0)) (vector (pos 10) (pos 99) (pos 0))

abbrev pub swinging_edge : List Move
swinging_edge = swinging_down ∷ swinging_up ∷ []

-- A tetrahedron that turns over by two corners: its volume is positive at the start and at the end.
abbrev pub overturning_tetrahedron : Corners
overturning_tetrahedron = record {
  first = still_point;
  second = moving (vector (pos 100) (pos 0) (pos 0)) (vector (pos 100) (pos 0) (pos 0));
  third = moving (vector (pos 0) (pos 100) (pos 0)) (vector (pos 0) (minus 100) (pos 0));
  fourth = moving (vector (pos 0) (pos 0) (pos 100)) (vector (pos 0) (pos 0) (minus 50));
}
