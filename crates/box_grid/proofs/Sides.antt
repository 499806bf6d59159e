-- The longest side of boxes, and how many sides of a cell it is.
use Rattle.std.proofs.Common.{◌≡◌, ℕ, ◌+◌, ◌*◌, ◌/◌, ◌<◌, ◌≤◌, max, List, length, take, get_or, arith}
use Rattle.std.specs.List.{All}
use Rattle.std.proofs.lemmas.List.Elements.{All-more, All-weaker}
use Rattle.space3.specs.declared.boxes.BoundingBox.{BoundingBox}
use Rattle.box_grid.specs.declared.limits.TheConstants.{MOST_SPLIT}
use Rattle.box_grid.specs.Calls.Cells.{longest_side}

-- one box more
pub sides_more : (boxes : List BoundingBox) (i : ℕ) (d : BoundingBox) (longest more : ℕ) → i < length boxes → All (λ b. longest_side b ≤ longest) (take i boxes) → more ≡ max longest (longest_side (get_or boxes i d)) →
    All (λ b. longest_side b ≤ more) (take (i + 1) boxes)
sides_more boxes i d longest more there h e =
    All-more (λ b. longest_side b ≤ more) boxes i d there
    (All-weaker (λ b. longest_side b ≤ longest) (λ b. longest_side b ≤ more) (λ b l. up (longest_side b) longest more (longest_side (get_or boxes i d)) e l) (take i boxes) h)
    (last longest more (longest_side (get_or boxes i d)) e)
  where
    up : (side longest more other : ℕ) → more ≡ max longest other → side ≤ longest → side ≤ more
    up side longest more other e l = omega arith

    last : (longest more other : ℕ) → more ≡ max longest other → other ≤ more
    last longest more other e = omega arith

-- cells whose side is more than this part of the longest side
pub sides_below : (boxes : List BoundingBox) (longest side : ℕ) → All (λ b. longest_side b ≤ longest) boxes → longest / MOST_SPLIT + 1 ≤ side → All (λ b. longest_side b < MOST_SPLIT * side) boxes
sides_below boxes longest side h e =
    All-weaker (λ b. longest_side b ≤ longest) (λ b. longest_side b < MOST_SPLIT * side) (λ b l. below (longest_side b) longest side e l) boxes h
  where
    below : (s longest side : ℕ) → longest / MOST_SPLIT + 1 ≤ side → s ≤ longest → s < MOST_SPLIT * side
    below s longest side e l = omega arith
