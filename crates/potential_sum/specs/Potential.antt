-- The potential that a frame lowers, and its gradient.
use Rattle.std.specs.Prelude.{ℕ, ℤ, List, map, flat_map, slice_index_or, false, if◌then◌else◌}
use Rattle.space3.specs.declared.vectors.V3.{V3}
use Rattle.space3.specs.Vectors.{origin}
use Rattle.vec_q.specs.Rows.{components}
use Rattle.surface_mesh.specs.declared.setup.Setup.{Setup}
use Rattle.surface_mesh.specs.Setup.{node_positions}
use Rattle.list_laws.specs.Sums.{total}
use Rattle.potential_sum.specs.Contributions.{contributions, pull_at, vector_total}
use Rattle.potential_sum.specs.Terms.{FrameTerms}

-- the potential where the nodes stand at these places: the sum of the energies of all contributions
abbrev pub potential : Setup → FrameTerms → (places : List V3) → ℤ
potential setup frame places = total (map (λ part. part.energy) (contributions setup frame places))

-- the gradient at a node: the sum of all pulls at it, and 0 where it is fixed
abbrev pub gradient_at : Setup → FrameTerms → (places : List V3) → (node : ℕ) → V3
gradient_at setup frame places node =
    if slice_index_or setup.fixed node false then origin
    else vector_total (map (pull_at node) (contributions setup frame places))

-- the gradient, three numbers per node
abbrev pub gradient : Setup → FrameTerms → (places : List V3) → List ℤ
gradient setup frame places =
    flat_map (λ node. components (gradient_at setup frame places node)) (node_positions setup.mesh)
