-- The points of one part as seen from those of the other.
use Rattle.std.specs.Prelude.{ℕ, ◌+◌, ◌^◌, pos, ◌<ℤ◌, List, [], ◌∷◌, map}
use Rattle.std.specs.List.{flat_map}
use Rattle.space3.specs.declared.vectors.V3.{V3}
use Rattle.space3.specs.Vectors.{Within, difference, dot_product, multiple}
use Rattle.space3.specs.Box.{IsInTheBox}
use Rattle.plane_cut.specs.declared.planes.TheConstants.{COMPONENT_LIMIT}
use Rattle.safe_motion.specs.declared.motion.Move.{Move}
use Rattle.safe_motion.specs.Moments.{place_at}

-- how the first point moves as seen from the second
abbrev pub relative_move : Move → Move → Move
relative_move x y = record { start = difference x.start y.start; end = difference x.end y.end }

-- the point as seen from each of the others
abbrev pub moves_from : List Move → Move → List Move
moves_from ys x = map (relative_move x) ys

-- each point of the first list as seen from each of the second
abbrev pub relative_moves : List Move → List Move → List Move
relative_moves xs ys = flat_map (moves_from ys) xs

-- the move in the interval from j / n to (j + 1) / n, times n
abbrev pub within_interval : ℕ → ℕ → Move → Move
within_interval j n move = record { start = place_at j n move; end = place_at (j + 1) n move }

-- the relative moves in that interval, times n
abbrev pub moves_within : List Move → List Move → ℕ → ℕ → List Move
moves_within xs ys j n = map (within_interval j n) (relative_moves xs ys)

-- the places at the start and at the end
abbrev pub ends_of : Move → List V3
ends_of m = m.start ∷ m.end ∷ []

abbrev pub all_ends : List Move → List V3
all_ends moves = flat_map ends_of moves

-- both ends are in the box
pub record IsNear (m : Move) : Type 0 where
  pub start : IsInTheBox m.start
  pub end : IsInTheBox m.end

-- both ends are short enough for a row of a plane decision
pub record IsShort (m : Move) : Type 0 where
  pub start : Within COMPONENT_LIMIT m.start
  pub end : Within COMPONENT_LIMIT m.end

-- both ends are so after as many halvings, each of which doubles them
pub record HasRoom (depth : ℕ) (m : Move) : Type 0 where
  pub start : Within COMPONENT_LIMIT (multiple (pos (2 ^ depth)) m.start)
  pub end : Within COMPONENT_LIMIT (multiple (pos (2 ^ depth)) m.end)

-- the move starts and ends on the side of n
pub record IsAhead (n : V3) (m : Move) : Type 0 where
  pub start : pos 0 <ℤ dot_product n m.start
  pub end : pos 0 <ℤ dot_product n m.end
