-- How far points of close parts are apart.
use Rattle.std.proofs.Common.{ℕ, ◌<◌, List, length, get_or, arith}
use Rattle.space3.specs.declared.vectors.V3.{V3}
use Rattle.space3.specs.Vectors.{Within, difference}
use Rattle.space3.proofs.Bounds.{within-turned}
use Rattle.vec_q.specs.Widths.{IsBelow}
use Rattle.vec_q.proofs.Sizes.{below}
use Rattle.nearest.specs.declared.limits.TheConstants.{EDGE_LIMIT, APART_LIMIT}
use Rattle.nearest.specs.Close.{HasShortEdges, AreClose}
use Rattle.nearest.proofs.CloseParts.{apart}

-- from a point of the second part to one of the first
pub towards : (xs ys : List V3) → AreClose xs ys → (i j : ℕ) (d e : V3) → i < length xs → j < length ys → IsBelow 18 (difference (get_or xs i d) (get_or ys j e))
towards xs ys c i j d e hi hj = below APART_LIMIT 18 (difference (get_or xs i d) (get_or ys j e)) (apart xs ys c i d hi j e hj) (omega arith)

-- and the other way
pub away_within : (xs ys : List V3) → AreClose xs ys → (i j : ℕ) (d e : V3) → i < length xs → j < length ys → Within APART_LIMIT (difference (get_or ys j e) (get_or xs i d))
away_within xs ys c i j d e hi hj = within-turned APART_LIMIT (get_or xs i d) (get_or ys j e) (apart xs ys c i d hi j e hj)

pub away : (xs ys : List V3) → AreClose xs ys → (i j : ℕ) (d e : V3) → i < length xs → j < length ys → IsBelow 18 (difference (get_or ys j e) (get_or xs i d))
away xs ys c i j d e hi hj = below APART_LIMIT 18 (difference (get_or ys j e) (get_or xs i d)) (away_within xs ys c i j d e hi hj) (omega arith)

-- along an edge
pub edge : (xs : List V3) → HasShortEdges xs → (i j : ℕ) (d e : V3) → i < length xs → j < length xs → IsBelow 18 (difference (get_or xs i d) (get_or xs j e))
edge xs c i j d e hi hj = below EDGE_LIMIT 18 (difference (get_or xs i d) (get_or xs j e)) (c i d hi j e hj) (omega arith)
