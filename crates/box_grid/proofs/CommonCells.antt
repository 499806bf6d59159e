-- Two boxes that have a common point have a common cell.
use Rattle.std.proofs.Common.{◌≡◌, if◌then◌else◌, ℕ, true, ◌+◌, ◌-◌, ◌<◌, ◌≤◌, max, min, ℤ, pos, ◌+ℤ◌, ◌-ℤ◌, ◌≤ℤ◌, unsigned_abs, List, [], length, sym, subst, arith}
use Rattle.std.specs.Prelude.{IsTrue}
use Rattle.std.specs.List.{range_with_len, All, Contains}
use Rattle.std.proofs.lemmas.Bool.{and_parts}
use Rattle.std.proofs.lemmas.Int.{ints}
use Rattle.list_laws.proofs.Membership.{Contains-flat_map, Contains-range}
use Rattle.space3.specs.Boxes.{are_within}
use Rattle.space3.specs.Vectors.{AtMost, origin}
use Rattle.space3.specs.declared.boxes.BoundingBox.{BoundingBox}
use Rattle.space3.specs.declared.places.TheConstants.{BOX_LIMIT}
use Rattle.space3.proofs.BoxLemmas.{gap_parts}
use Rattle.box_grid.specs.declared.cells.Cells.{Cells}
use Rattle.box_grid.specs.declared.entries.Entry.{Entry}
use Rattle.box_grid.specs.declared.sizes.Level.{Level}
use Rattle.box_grid.specs.declared.limits.TheConstants.{AXIS_LIMIT, LEAST_SIDE, REACH_LIMIT}
use Rattle.box_grid.specs.Near.{LiesInTheBox, box_at}
use Rattle.box_grid.specs.Calls.Cells.{LiesByTheBox, cell_of, cells_over, entries_in, entries_of, entries_of_boxes, entry_at, has, key_of, keys_over}
use Rattle.box_grid.proofs.Divisions.{div_keeps_order}
use Rattle.box_grid.proofs.KeysOfCells.{entry_of_cell, key_of_cell}
use Rattle.box_grid.proofs.WideBoxes.{by_the_box}

cell_keeps_order : (side : ℕ) (u v : ℤ) → 0 < side → pos 0 ≤ℤ (u +ℤ pos AXIS_LIMIT) → u ≤ℤ v → cell_of side u ≤ cell_of side v
unfolding cell_of
cell_keeps_order side u v s l h = div_keeps_order (unsigned_abs (u +ℤ pos AXIS_LIMIT)) (unsigned_abs (v +ℤ pos AXIS_LIMIT)) side s (abs_keeps_order (u +ℤ pos AXIS_LIMIT) (v +ℤ pos AXIS_LIMIT) l (omega (arith, ints)))
  where
    abs_keeps_order : (p q : ℤ) → pos 0 ≤ℤ p → p ≤ℤ q → unsigned_abs p ≤ unsigned_abs q
    abs_keeps_order p q l h = omega (arith, ints)

-- a position in both of two runs of positions
record Common (a many_a b many_b : ℕ) : Type 0 where
  cell : ℕ
  from_a : a ≤ cell
  below_a : cell < a + many_a
  from_b : b ≤ cell
  below_b : cell < b + many_b

common : (la ha lb hb : ℕ) → la ≤ hb → lb ≤ ha → Common (min la ha) (max la ha - min la ha + 1) (min lb hb) (max lb hb - min lb hb + 1)
common la ha lb hb c d = record { cell = max (min la ha) (min lb hb); from_a = omega arith; below_a = omega arith; from_b = omega arith; below_b = omega arith }

not_negative : (z : ℤ) → AtMost (BOX_LIMIT + REACH_LIMIT) z → pos 0 ≤ℤ (z +ℤ pos AXIS_LIMIT)
not_negative z h = omega (arith, ints, h.bound)

-- along an axis
along : (side : ℕ) (al ag bl bg : ℤ) → 0 < side → AtMost (BOX_LIMIT + REACH_LIMIT) al → AtMost (BOX_LIMIT + REACH_LIMIT) bl → (bl -ℤ ag) ≤ℤ pos 0 → (al -ℤ bg) ≤ℤ pos 0 →
    Common (min (cell_of side al) (cell_of side ag)) (max (cell_of side al) (cell_of side ag) - min (cell_of side al) (cell_of side ag) + 1)
    (min (cell_of side bl) (cell_of side bg)) (max (cell_of side bl) (cell_of side bg) - min (cell_of side bl) (cell_of side bg) + 1)
along side al ag bl bg s a b before after =
    common (cell_of side al) (cell_of side ag) (cell_of side bl) (cell_of side bg)
    (cell_keeps_order side al bg s (not_negative al a) (no_gap al bg after))
    (cell_keeps_order side bl ag s (not_negative bl b) (no_gap bl ag before))
  where
    no_gap : (a b : ℤ) → (a -ℤ b) ≤ℤ pos 0 → a ≤ℤ b
    no_gap a b h = omega (arith, ints)

-- an entry of the item with a key of the cells
pub record EntryOfCells (entries : List Entry) (c : Cells) (item : ℕ) (around : BoundingBox) : Type 0 where
  pub key : ℕ
  pub there : Contains entries (entry_at key item around)
  pub of_cells : Contains (keys_over c) key

-- where two boxes' cells have a common one, the second has an entry with a key of the first
entry_of_common_cell : (a b : Cells) (item : ℕ) (around : BoundingBox) → Common a.x a.width b.x b.width → Common a.y a.depth b.y b.depth → Common a.z a.height b.z b.height → EntryOfCells (entries_of b item around) a item around
entry_of_common_cell a b item around cx cy cz = record {
  key = key_of cx.cell cy.cell cz.cell;
  there = entry_of_cell b item (key_of cx.cell cy.cell cz.cell) around (key_of_cell b cx.cell cy.cell cz.cell cx.from_b cx.below_b cy.from_b cy.below_b cz.from_b cz.below_b);
  of_cells = key_of_cell a cx.cell cy.cell cz.cell cx.from_a cx.below_a cy.from_a cy.below_a cz.from_a cz.below_a;
}

-- a box that touches has an entry with a key of the cells
pub entry_of_touching_box : (level : Level) (reached : BoundingBox) (boxes : List BoundingBox) (item : ℕ) → LEAST_SIDE ≤ level.side → LiesByTheBox reached → All LiesInTheBox boxes → item < length boxes → IsTrue (are_within 0 reached (box_at boxes item)) → has level (box_at boxes item) ≡ true →
    EntryOfCells (entries_of_boxes level boxes) (cells_over level.side reached) item (box_at boxes item)
entry_of_touching_box level a boxes item s h all below touch had =
    let side = level.side in
    let b = box_at boxes item in
    let other : LiesByTheBox b = by_the_box b (all item (record { least = origin; greatest = origin }) below) in
    let outer = and_parts _ _ touch in
    let inner = and_parts _ _ outer.0 in
    let x = gap_parts 0 a.least.x a.greatest.x b.least.x b.greatest.x inner.0 in
    let y = gap_parts 0 a.least.y a.greatest.y b.least.y b.greatest.y inner.1 in
    let z = gap_parts 0 a.least.z a.greatest.z b.least.z b.greatest.z outer.1 in
    let f = entry_of_common_cell (cells_over side a) (cells_over side b) item b
    (along side a.least.x a.greatest.x b.least.x b.greatest.x (omega arith) h.least.x other.least.x x.0 x.1)
    (along side a.least.y a.greatest.y b.least.y b.greatest.y (omega arith) h.least.y other.least.y y.0 y.1)
    (along side a.least.z a.greatest.z b.least.z b.greatest.z (omega arith) h.least.z other.least.z z.0 z.1) in
    record {
      key = f.key;
      there = Contains-flat_map (λ i. entries_in level (box_at boxes i) i) (range_with_len 0 (length boxes)) item (entry_at f.key item b) (Contains-range (length boxes) item below)
          (subst (λ t. Contains (if t then entries_of (cells_over side b) item b else []) (entry_at f.key item b)) (sym had) f.there);
      of_cells = f.of_cells;
    }
