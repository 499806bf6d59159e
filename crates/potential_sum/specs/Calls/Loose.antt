-- Contributions of which some node isn't fixed.
use Rattle.std.specs.Prelude.{Bool, not, List, ◌++◌, filter, map}
use Rattle.space3.specs.declared.vectors.V3.{V3}
use Rattle.broad_grid.specs.Held.{are_held}
use Rattle.surface_mesh.specs.declared.setup.Setup.{Setup}
use Rattle.surface_mesh.specs.Setup.{node_positions}
use Rattle.potential_sum.specs.Bodies.{elastic_tets}
use Rattle.potential_sum.specs.Contacts.{close_parts}
use Rattle.potential_sum.specs.Contributions.{Contribution, barrier_contribution, elastic_contribution, friction_contribution, inertia_contribution}
use Rattle.potential_sum.specs.Terms.{FrameTerms}

-- those of the contributions of which some node isn't fixed
abbrev pub loose : (fixed : List Bool) → List Contribution → List Contribution
loose fixed parts = filter (λ part. not (are_held fixed part.nodes)) parts

-- those of which each node is
abbrev pub held : (fixed : List Bool) → List Contribution → List Contribution
held fixed parts = filter (λ part. are_held fixed part.nodes) parts

-- the contributions without those of tetrahedra and close parts of which each node is fixed
abbrev pub loose_contributions : Setup → FrameTerms → (places : List V3) → List Contribution
loose_contributions setup frame places =
    map (inertia_contribution setup frame places) (node_positions setup.mesh)
    ++ loose setup.fixed (map (elastic_contribution places) (elastic_tets setup))
    ++ loose setup.fixed (map (barrier_contribution setup.numbers places) (close_parts setup places))
    ++ map (friction_contribution setup.numbers places) frame.contacts
