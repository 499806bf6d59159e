use Rattle.std.proofs.Common.{◌≡◌, length}
use Rattle.std.specs.Prelude.{map}
use Rattle.line_fields.specs.Lines.{fields}
use Rattle.mesh_words.specs.Kinds.{first_of, node_kind}
use Rattle.msh_rows.proofs.corners.check_nodes.Given as goal

-- what is left to try gives what all fields give
abbrev pub invariant-loop-field : goal.invariant-loop-field
invariant-loop-field l = first_of (map (node_kind l.nodes) (fields l.fn.line)) ≡ first_of (map (node_kind l.nodes) (fields l.rest))

abbrev pub decreases-loop-field : goal.decreases-loop-field
decreases-loop-field l = length l.rest
