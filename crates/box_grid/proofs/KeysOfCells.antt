-- The key of each cell is among the keys of the cells, and has an entry.
use Rattle.std.proofs.Common.{◌≡◌, ℕ, ◌+◌, ◌-◌, ◌<◌, ◌≤◌, sym, subst, arith}
use Rattle.std.specs.List.{range_with_len, Contains}
use Rattle.list_laws.proofs.Membership.{Contains-map, Contains-flat_map, Contains-range}
use Rattle.space3.specs.declared.boxes.BoundingBox.{BoundingBox}
use Rattle.box_grid.specs.declared.cells.Cells.{Cells}
use Rattle.box_grid.specs.Calls.Cells.{entries_of, entry_at, key_of, keys_over, row_keys, slab_keys}

-- each of the cells has its key there
pub key_of_cell : (c : Cells) (x y z : ℕ) → c.x ≤ x → x < c.x + c.width → c.y ≤ y → y < c.y + c.depth → c.z ≤ z → z < c.z + c.height → Contains (keys_over c) (key_of x y z)
key_of_cell c x y z xl xh yl yh zl zh =
    let ex : c.x + (x - c.x) ≡ x = omega arith in
    let ey : c.y + (y - c.y) ≡ y = omega arith in
    let ez : c.z + (z - c.z) ≡ z = omega arith in
    Contains-flat_map (λ k. slab_keys c (c.x + k)) (range_with_len 0 c.width) (x - c.x) (key_of x y z) (Contains-range c.width (x - c.x) (omega arith))
    (subst (λ m. Contains (slab_keys c m) (key_of x y z)) (sym ex)
    (Contains-flat_map (λ k. row_keys c x (c.y + k)) (range_with_len 0 c.depth) (y - c.y) (key_of x y z) (Contains-range c.depth (y - c.y) (omega arith))
    (subst (λ m. Contains (row_keys c x m) (key_of x y z)) (sym ey)
    (subst (λ m. Contains (row_keys c x y) (key_of x y m)) ez
    (Contains-map (λ k. key_of x y (c.z + k)) (range_with_len 0 c.height) (z - c.z) (Contains-range c.height (z - c.z) (omega arith)))))))

-- and an entry
pub entry_of_cell : (c : Cells) (item key : ℕ) (b : BoundingBox) → Contains (keys_over c) key → Contains (entries_of c item b) (entry_at key item b)
entry_of_cell c item key b there = Contains-map (λ k. entry_at k item b) (keys_over c) key there
