-- Parts that are close enough for their products to be exact.
use Rattle.std.specs.Prelude.{List, All, IsTrue}
use Rattle.space3.specs.declared.vectors.V3.{V3}
use Rattle.space3.specs.Vectors.{Within, difference}
use Rattle.space3.specs.Boxes.{box_of, are_within}
use Rattle.nearest.specs.declared.limits.TheConstants.{EDGE_LIMIT, GAP_LIMIT}

-- each component of each edge is at most the limit in absolute value
abbrev pub HasShortEdges : List V3 → Type 0
HasShortEdges xs = All (λ a. All (λ b. Within EDGE_LIMIT (difference a b)) xs) xs

-- two parts with short edges, whose boxes have a small gap along each axis
pub record AreClose (xs ys : List V3) : Type 0 where
  pub left : HasShortEdges xs
  pub right : HasShortEdges ys
  pub gap : IsTrue (are_within GAP_LIMIT (box_of xs) (box_of ys))
