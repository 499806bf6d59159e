-- The matrix of a frame: the square table that the blocks of all contributions give.
use Rattle.std.specs.Prelude.{ℕ, ◌==◌, ◌&&◌, List, [], ◌∷◌, length, map, flat_map, slice_index, if◌then◌else◌}
use Rattle.std.specs.List.{range_with_len}
use Rattle.space3.specs.declared.vectors.V3.{V3}
use Rattle.vec_q.specs.Matrices.{M3}
use Rattle.block_rows.specs.Tables.{Table, cut_table, no_block, sum_of_blocks}
use Rattle.surface_mesh.specs.declared.setup.Setup.{Setup}
use Rattle.potential_sum.specs.Contributions.{Contribution, contributions}
use Rattle.potential_sum.specs.Terms.{FrameTerms}

-- the sum of blocks
abbrev pub block_total : List M3 → M3
block_total [] = no_block
block_total (b ∷ bs) = sum_of_blocks b (block_total bs)

-- What a contribution adds in the row of one node and the column of another: the sum of its blocks between those of its
-- nodes that are these.
abbrev pub stiffness_at : (row column : ℕ) → Contribution → M3
stiffness_at row column part =
    let node = slice_index part.nodes in
    let each = range_with_len 0 (length part.nodes) in
    block_total (flat_map (λ i. map (λ j. if (node i == row) && (node j == column) then part.blocks i j else no_block) each) each)

-- the sums of all contributions
abbrev pub stiffness : Setup → FrameTerms → (places : List V3) → Table
stiffness setup frame places row column = block_total (map (stiffness_at row column) (contributions setup frame places))

-- each entry cut, and rows and columns of fixed nodes those of the unit matrix
abbrev pub matrix : Setup → FrameTerms → (places : List V3) → Table
matrix setup frame places = cut_table setup.fixed (stiffness setup frame places)
