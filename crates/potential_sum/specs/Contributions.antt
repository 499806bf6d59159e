-- What the potential of a frame is the sum of: one contribution a node for its inertia, one a tetrahedron for its
-- elasticity, one a pair of close parts of the surface for its barrier, and one a contact for its friction.
use Rattle.std.specs.Prelude.{ℕ, ◌==◌, ℤ, pos, List, [], ◌∷◌, ◌++◌, length, map, zip, slice_index_or, if◌then◌else◌}
use Rattle.space3.specs.declared.vectors.V3.{V3}
use Rattle.space3.specs.Vectors.{origin, sum_of}
use Rattle.space3.specs.Mesh.{place_of}
use Rattle.safe_motion.specs.Safety.{PartPair}
use Rattle.surface_mesh.specs.declared.materials.Numbers.{Numbers}
use Rattle.surface_mesh.specs.declared.setup.Setup.{Setup}
use Rattle.surface_mesh.specs.Setup.{node_positions}
use Rattle.barrier_term.specs.Barrier.{barrier_energy}
use Rattle.barrier_term.specs.Blocks.{barrier_block}
use Rattle.barrier_term.specs.Gradients.{barrier_gradient}
use Rattle.friction_lag.specs.Contacts.{LaggedContact}
use Rattle.friction_lag.specs.Friction.{friction_block, friction_energy, friction_gradient}
use Rattle.vec_q.specs.Matrices.{M3}
use Rattle.inertia_term.specs.Inertia.{inertia_block, inertia_energy, inertia_gradient}
use Rattle.neo_hooke.specs.Block.{elastic_block}
use Rattle.neo_hooke.specs.Energy.{elastic_energy}
use Rattle.neo_hooke.specs.Gradient.{elastic_gradient}
use Rattle.potential_sum.specs.Bodies.{ElasticTet, corners_at, elastic_tets}
use Rattle.potential_sum.specs.Contacts.{close_parts, near_of_parts, nodes_of_parts, points_of_parts}
use Rattle.potential_sum.specs.Terms.{FrameTerms}

-- the nodes on which it depends, its energy, its gradient at each of these nodes, and its block between each two of them
pub record Contribution : Type 0 where
  pub nodes : List ℕ
  pub energy : ℤ
  pub pulls : List V3
  pub blocks : (i j : ℕ) → M3

-- the mass of a node of a setup
abbrev pub mass_at : Setup → ℕ → ℤ
mass_at setup node = slice_index_or setup.mass node (pos 0)

-- the inertia of a node
abbrev pub inertia_contribution : Setup → FrameTerms → (places : List V3) → (node : ℕ) → Contribution
inertia_contribution setup frame places node =
    let place = place_of places node in
    let target = place_of frame.targets node in record {
      nodes = node ∷ [];
      energy = inertia_energy (mass_at setup node) place target;
      pulls = inertia_gradient (mass_at setup node) place target ∷ [];
      blocks = λ i j. inertia_block (mass_at setup node);
    }

-- the elasticity of a tetrahedron
abbrev pub elastic_contribution : (places : List V3) → ElasticTet → Contribution
elastic_contribution places tet =
    let x = corners_at places tet.nodes in record {
      nodes = tet.nodes;
      energy = elastic_energy tet.rest tet.mu tet.lambda x;
      pulls = elastic_gradient tet.rest tet.mu tet.lambda x;
      blocks = elastic_block tet.rest tet.mu tet.lambda x;
    }

-- the barrier between two parts of the surface, which are given by their nodes
abbrev pub barrier_contribution : Numbers → (places : List V3) → PartPair → Contribution
barrier_contribution numbers places parts =
    let near = near_of_parts places parts in
    let points = points_of_parts places parts in
    let split = length parts.left in record {
      nodes = nodes_of_parts parts;
      energy = barrier_energy numbers.kappa numbers.dhat near;
      pulls = barrier_gradient numbers.kappa numbers.dhat near split points;
      blocks = barrier_block numbers.kappa numbers.dhat near split points;
    }

-- the friction of a contact
abbrev pub friction_contribution : Numbers → (places : List V3) → LaggedContact → Contribution
friction_contribution numbers places contact =
    let x = corners_at places contact.nodes in record {
      nodes = contact.nodes;
      energy = friction_energy contact numbers.friction numbers.slip x;
      pulls = friction_gradient contact numbers.friction numbers.slip x;
      blocks = friction_block contact numbers.friction numbers.slip x;
    }

-- all contributions where the nodes stand at these places
abbrev pub contributions : Setup → FrameTerms → (places : List V3) → List Contribution
contributions setup frame places =
    map (inertia_contribution setup frame places) (node_positions setup.mesh)
    ++ map (elastic_contribution places) (elastic_tets setup)
    ++ map (barrier_contribution setup.numbers places) (close_parts setup places)
    ++ map (friction_contribution setup.numbers places) frame.contacts

-- the sum of vectors
abbrev pub vector_total : List V3 → V3
vector_total [] = origin
vector_total (v ∷ vs) = sum_of v (vector_total vs)

-- the sum of those vectors that are at this node, where each is at one of the nodes
abbrev pub sum_at : (node : ℕ) → (nodes : List ℕ) → List V3 → V3
sum_at node nodes vectors =
    vector_total (map (λ pair. if pair.0 == node then pair.1 else origin) (zip nodes vectors))

-- what a contribution pulls with at a node
abbrev pub pull_at : (node : ℕ) → Contribution → V3
pull_at node part = sum_at node part.nodes part.pulls
