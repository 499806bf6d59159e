-- Tetrahedra and nodes by their numbers in the file, and the lines that name them so.
use Rattle.std.specs.Prelude.{ℕ, map, slice_get, slice_index}
use Rattle.std.specs.Option.{option_map_or}
use Rattle.space3.specs.declared.mesh.Mesh.{Mesh}
use Rattle.boundary.specs.declared.pairs.Pair.{Pair}
use Rattle.boundary.specs.Pairs.{part_pair}
use Rattle.surface_mesh.specs.declared.setup.Setup.{Setup}
use Rattle.mesh_check.specs.declared.defects.Defect.{Defect}
use Rattle.mesh_check.specs.declared.defects.Defect.TheVariants as defects
use Rattle.report_text.specs.declared.line.Line.{Line}
use Rattle.report_text.specs.declared.line.Line.TheVariants as lines

-- the number in the file of a tetrahedron, by its position
abbrev pub tet_number : Mesh → ℕ → ℕ
tet_number mesh tet = option_map_or (λ t. t.number) (slice_get mesh.tets tet) 0

-- the number in the file of a node, by its position
abbrev pub node_number : Mesh → ℕ → ℕ
node_number mesh node = slice_index mesh.numbers node

-- a pair of parts that meet, by the numbers of their nodes
abbrev pub meets_line : Setup → Pair → Line
meets_line setup pair =
    let parts = part_pair setup.surface pair in
    let numbers = map (node_number setup.mesh) in
    lines.Meets pair.kind (numbers parts.left) (numbers parts.right)

-- a defect of bodies
abbrev pub defect_line : Setup → Defect → Line
defect_line setup (defects.NotPositive tet) = lines.NotPositive (tet_number setup.mesh tet)
defect_line setup (defects.Thin tet) = lines.Thin (tet_number setup.mesh tet)
defect_line setup (defects.Long tet) = lines.Long (tet_number setup.mesh tet)
defect_line setup (defects.TooHeavy node) = lines.TooHeavy (node_number setup.mesh node)
defect_line setup (defects.Meets pair) = meets_line setup pair
