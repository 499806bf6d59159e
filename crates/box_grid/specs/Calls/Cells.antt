-- The cells of a uniform grid, their keys, and the entries of the cells that boxes cover.
use Rattle.std.specs.Prelude.{ℕ, ◌+◌, ◌-◌, ◌*◌, ◌/◌, ◌%◌, ◌<◌, ◌≤◌, Bool, ◌&&◌, not, if◌then◌else◌, nat_le, int_le, ℤ, pos, neg_ℤ, ◌+ℤ◌, ◌-ℤ◌, List, [], length, map, max, min, unsigned_abs, IsTrue}
use Rattle.std.specs.List.{flat_map, range_with_len}
use Rattle.std.specs.List.Sorted.{IsNonDecreasingBy, IsPermutation}
use Rattle.space3.specs.declared.boxes.BoundingBox.{BoundingBox}
use Rattle.space3.specs.declared.vectors.V3.{V3}
use Rattle.space3.specs.Boxes.{are_within}
use Rattle.space3.specs.declared.places.TheConstants.{BOX_LIMIT}
use Rattle.space3.specs.Vectors.{Within, vector}
use Rattle.box_grid.specs.declared.limits.TheConstants.{AXIS_LIMIT, FIRST_FACTOR, MOST_SPLIT, REACH_LIMIT, SECOND_FACTOR, THIRD_FACTOR}
use Rattle.box_grid.specs.declared.cells.Cell.{Cell}
use Rattle.box_grid.specs.declared.cells.Cells.{Cells}
use Rattle.box_grid.specs.declared.entries.Entry.{Entry}
use Rattle.box_grid.specs.declared.search.Query.{Query}
use Rattle.box_grid.specs.declared.sizes.Level.{Level}
use Rattle.box_grid.specs.Near.{box_at}

-- the position of the cell of a component along its axis
unfoldable pub cell_of : ℕ → ℤ → ℕ
cell_of side v = unsigned_abs (v +ℤ pos AXIS_LIMIT) / side

-- the key of a cell; cells far apart may have the same
unfoldable pub key_of : ℕ → ℕ → ℕ → ℕ
key_of x y z = (x * FIRST_FACTOR + y * SECOND_FACTOR + z * THIRD_FACTOR) % 4294967296

-- the cell of a place
abbrev pub cell_at : ℕ → V3 → Cell
cell_at side v = record { x = cell_of side v.x; y = cell_of side v.y; z = cell_of side v.z }

-- the place that is less, or more, by `reach` along each axis
abbrev pub lowered : ℕ → V3 → V3
lowered reach v = vector (v.x -ℤ pos reach) (v.y -ℤ pos reach) (v.z -ℤ pos reach)

abbrev pub raised : ℕ → V3 → V3
raised reach v = vector (v.x +ℤ pos reach) (v.y +ℤ pos reach) (v.z +ℤ pos reach)

-- the box with its corners moved apart by `reach`
abbrev pub widened : ℕ → BoundingBox → BoundingBox
widened reach b = record { least = lowered reach b.least; greatest = raised reach b.greatest }

-- both corners are in the box of places, or past it by no more than the greatest reach
pub record LiesByTheBox (b : BoundingBox) : Type 0 where
  pub least : Within (BOX_LIMIT + REACH_LIMIT) b.least
  pub greatest : Within (BOX_LIMIT + REACH_LIMIT) b.greatest

-- positions within the limit along each axis
pub record IsCell (c : Cell) : Type 0 where
  pub x : c.x < AXIS_LIMIT
  pub y : c.y < AXIS_LIMIT
  pub z : c.z < AXIS_LIMIT

-- the cells from one of two cells to the other, whichever is the lesser
abbrev pub cells_between : Cell → Cell → Cells
cells_between a b = record {
  x = min a.x b.x;
  y = min a.y b.y;
  z = min a.z b.z;
  width = max a.x b.x - min a.x b.x + 1;
  depth = max a.y b.y - min a.y b.y + 1;
  height = max a.z b.z - min a.z b.z + 1;
}

-- the cells between those of a box's corners
abbrev pub cells_over : ℕ → BoundingBox → Cells
cells_over side b = cells_between (cell_at side b.least) (cell_at side b.greatest)

-- cells within the limit, at least one
pub record AreCells (c : Cells) : Type 0 where
  pub x : c.x + c.width ≤ AXIS_LIMIT
  pub y : c.y + c.depth ≤ AXIS_LIMIT
  pub z : c.z + c.height ≤ AXIS_LIMIT
  pub wide : 0 < c.width
  pub deep : 0 < c.depth
  pub high : 0 < c.height

-- the keys of the cells at these positions along the first two axes
abbrev pub row_keys : Cells → ℕ → ℕ → List ℕ
row_keys c x y = map (λ k. key_of x y (c.z + k)) (range_with_len 0 c.height)

-- of those at this position along the first axis
abbrev pub slab_keys : Cells → ℕ → List ℕ
slab_keys c x = flat_map (λ k. row_keys c x (c.y + k)) (range_with_len 0 c.depth)

-- the keys of the cells
abbrev pub keys_over : Cells → List ℕ
keys_over c = flat_map (λ k. slab_keys c (c.x + k)) (range_with_len 0 c.width)

-- a position and a key as numbers of 32 bits; greater positions have lesser ones
abbrev pub short_item : ℕ → ℤ
short_item item = pos 2147483647 -ℤ pos item

abbrev pub short_key : ℕ → ℤ
short_key key = pos key -ℤ pos 2147483648

-- the numbers of one corner, those of another with the other sign, a position and a key
abbrev pub numbers_of : V3 → V3 → ℕ → ℕ → Entry
numbers_of near far item key = record {
  x = near.x;
  y = near.y;
  z = near.z;
  far_x = neg_ℤ far.x;
  far_y = neg_ℤ far.y;
  far_z = neg_ℤ far.z;
  item = short_item item;
  key = short_key key;
}

-- a box, with its position, that covers the cell with a key
abbrev pub entry_at : ℕ → ℕ → BoundingBox → Entry
entry_at key item b = numbers_of b.least b.greatest item key

-- the key of an entry, and the position of its box
abbrev pub entry_key : Entry → ℕ
entry_key e = unsigned_abs (e.key +ℤ pos 2147483648)

abbrev pub entry_item : Entry → ℕ
entry_item e = unsigned_abs (pos 2147483647 -ℤ e.item)

-- no number of an entry is above that of a bound
abbrev pub is_below : Entry → Entry → Bool
is_below bound e =
    int_le e.item bound.item
    && ((int_le e.x bound.x && int_le e.y bound.y && int_le e.z bound.z)
    && (int_le e.far_x bound.far_x && int_le e.far_y bound.far_y && int_le e.far_z bound.far_z))
    && int_le e.key bound.key

-- below this bound are the entries that a query searches for among those with a key
abbrev pub bound_of : Query → ℕ → Entry
bound_of query key = numbers_of query.reached.greatest query.reached.least query.from key

-- a query searches for an entry
abbrev pub is_sought : Query → Entry → Bool
is_sought query e = is_below (bound_of query (entry_key e)) e

-- an entry for each of these cells
abbrev pub entries_of : Cells → ℕ → BoundingBox → List Entry
entries_of c item b = map (λ key. entry_at key item b) (keys_over c)

-- how far apart the corners of a box are along an axis
abbrev pub side_along : (V3 → ℤ) → BoundingBox → ℕ
side_along axis b = unsigned_abs (axis b.greatest -ℤ axis b.least)

abbrev pub longest_side : BoundingBox → ℕ
longest_side b = max (max (side_along (λ p. p.x) b) (side_along (λ p. p.y) b)) (side_along (λ p. p.z) b)

-- a box may cover more than 9 cells of this side along an axis
abbrev pub is_great : ℕ → BoundingBox → Bool
is_great side b = nat_le side (longest_side b / MOST_SPLIT)

-- the box is of the level
abbrev pub has : Level → BoundingBox → Bool
has level b = if level.great then is_great level.common b else not (is_great level.common b)

-- an entry for each cell of a box, where it is of the level
abbrev pub entries_in : Level → BoundingBox → ℕ → List Entry
entries_in level b item = if has level b then entries_of (cells_over level.side b) item b else []

-- an entry for each cell of each box of the level
abbrev pub entries_of_boxes : Level → List BoundingBox → List Entry
entries_of_boxes level boxes =
    flat_map (λ i. entries_in level (box_at boxes i) i) (range_with_len 0 (length boxes))

-- a key and a position as one number, the key before the position
abbrev pub number : ℕ → ℕ → ℕ
number key item = key * 4294967296 + item

-- the entry of such a number
abbrev pub entry_of : List BoundingBox → ℕ → Entry
entry_of boxes n = entry_at (n / 4294967296) (n % 4294967296) (box_at boxes (n % 4294967296))

-- a number for each cell of a box, where it is of the level, and for each cell of each box
abbrev pub numbers_in : Level → BoundingBox → ℕ → List ℕ
numbers_in level b item = if has level b then map (λ key. number key item) (keys_over (cells_over level.side b)) else []

abbrev pub numbers_of_boxes : Level → List BoundingBox → List ℕ
numbers_of_boxes level boxes =
    flat_map (λ i. numbers_in level (box_at boxes i) i) (range_with_len 0 (length boxes))

-- the same entries by keys
pub record IsSortedForm (entries sorted : List Entry) : Type 0 where
  pub rises : IsNonDecreasingBy entry_key sorted
  pub moved : IsPermutation entries sorted

-- a position from that of a query on, whose box has a common point with the one that is reached
abbrev pub touches : Query → List BoundingBox → ℕ → Bool
touches query boxes i = nat_le query.from i && are_within 0 query.reached (box_at boxes i)

-- a number below n that passes a test
pub record PassesBelow (n : ℕ) (p : ℕ → Bool) (i : ℕ) : Type 0 where
  pub below : i < n
  pub passes : IsTrue (p i)
