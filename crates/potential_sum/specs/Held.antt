-- Tetrahedra and close parts by whether each of their nodes is fixed, and the energy of those of which each is.
use Rattle.std.specs.Prelude.{◌≡◌, ℤ, ◌+ℤ◌, ◌^◌, List, filter, length, map, not}
use Rattle.list_laws.specs.Sums.{total}
use Rattle.space3.specs.declared.vectors.V3.{V3}
use Rattle.space3.specs.Vectors.{AtMost}
use Rattle.safe_motion.specs.Safety.{PartPair}
use Rattle.broad_grid.specs.Held.{are_held}
use Rattle.surface_mesh.specs.declared.setup.Setup.{Setup}
use Rattle.neo_hooke.specs.Energy.{elastic_energy}
use Rattle.barrier_term.specs.Barrier.{barrier_energy}
use Rattle.potential_sum.specs.Bodies.{ElasticTet, corners_at, elastic_tets}
use Rattle.potential_sum.specs.Contacts.{close_parts, near_of_parts, nodes_of_parts}

-- the tetrahedra of which some node isn't fixed
abbrev pub loose_tets : Setup → List ElasticTet
loose_tets setup = filter (λ tet. not (are_held setup.fixed tet.nodes)) (elastic_tets setup)

-- those of which each node is
abbrev pub held_tets : Setup → List ElasticTet
held_tets setup = filter (λ tet. are_held setup.fixed tet.nodes) (elastic_tets setup)

-- the close parts of which each node is
abbrev pub held_parts : Setup → (places : List V3) → List PartPair
held_parts setup places = filter (λ parts. are_held setup.fixed (nodes_of_parts parts)) (close_parts setup places)

-- the energy of these tetrahedra and of the barriers between these parts
abbrev pub held_energy : Setup → (places : List V3) → ℤ
held_energy setup places =
    total (map (λ tet. elastic_energy tet.rest tet.mu tet.lambda (corners_at places tet.nodes)) (held_tets setup))
    +ℤ total (map (λ parts. barrier_energy setup.numbers.kappa setup.numbers.dhat (near_of_parts places parts))
    (held_parts setup places))

-- places, and the energy that was summed there
pub record HeldSum : Type 0 where
  pub places : List V3
  pub energy : ℤ

-- it is what a setup has there, with one place per node
pub record IsHeldEnergy (setup : Setup) (held : HeldSum) : Type 0 where
  pub each : length held.places ≡ length setup.mesh.numbers
  pub energy : held.energy ≡ held_energy setup held.places
  pub small : AtMost (2 ^ 124) held.energy
