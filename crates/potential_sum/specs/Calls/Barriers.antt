-- Parts of the surface between which there may be a barrier.
use Rattle.std.specs.Prelude.{◌≡◌, ℕ, ◌<◌, ◌⊎◌, List, ◌++◌, length, map, take, drop, slice_index}
use Rattle.space3.specs.declared.vectors.V3.{V3}
use Rattle.space3.specs.Mesh.{HasNodes, place_of}
use Rattle.safe_motion.specs.Safety.{PartPair}
use Rattle.boundary.specs.declared.pairs.Pair.{Pair}
use Rattle.boundary.specs.Pairs.{IsPair, part_pair}
use Rattle.surface_mesh.specs.declared.materials.Numbers.{Numbers}
use Rattle.surface_mesh.specs.declared.setup.Setup.{Setup}
use Rattle.nearest.specs.Close.{AreClose}
use Rattle.near_pair.specs.declared.near.Near.{Near}
use Rattle.barrier_term.specs.Barrier.{barrier_energy}
use Rattle.barrier_term.specs.Blocks.{barrier_block}
use Rattle.barrier_term.specs.Gradients.{barrier_gradient}
use Rattle.potential_sum.specs.declared.barriers.TwoParts.{TwoParts}
use Rattle.potential_sum.specs.Contributions.{Contribution, barrier_contribution}

-- one node and three, or two and two
abbrev pub AreFour : PartPair → Type 0
AreFour parts = (length parts.left ≡ 1 × length parts.right ≡ 3) ⊎ (length parts.left ≡ 2 × length parts.right ≡ 2)

-- no two are the same
pub record AreDifferent (nodes : List ℕ) : Type 0 where
  pub each : (i j : ℕ) → i < j → j < length nodes → ¬ (slice_index nodes i ≡ slice_index nodes j)

-- a point and a triangle or two edges, of four different nodes that have places, and close there
pub record MayPush (places : List V3) (parts : PartPair) : Type 0 where
  pub four : AreFour parts
  pub there : HasNodes places (parts.left ++ parts.right)
  pub different : AreDifferent (parts.left ++ parts.right)
  pub close : AreClose (map (place_of places) parts.left) (map (place_of places) parts.right)

-- the parts that are held
abbrev pub parts_in : TwoParts → PartPair
parts_in parts = record { left = take parts.split parts.nodes; right = drop parts.split parts.nodes }

-- a pair of the surface between whose parts there may be a barrier
pub record IsClosePair (setup : Setup) (places : List V3) (pair : Pair) : Type 0 where
  pub there : IsPair setup.surface pair
  pub close : MayPush places (part_pair setup.surface pair)

-- the barrier of a pair
abbrev pub barrier_at : Setup → (places : List V3) → Pair → Contribution
barrier_at setup places pair = barrier_contribution setup.numbers places (part_pair setup.surface pair)

-- the barrier between four points at these nodes, of which the first part has `split`, by their nearest points
abbrev pub barrier_of : Numbers → (nodes : List ℕ) → (split : ℕ) → (points : List V3) → Near → Contribution
barrier_of numbers nodes split points near = record {
  nodes = nodes;
  energy = barrier_energy numbers.kappa numbers.dhat near;
  pulls = barrier_gradient numbers.kappa numbers.dhat near split points;
  blocks = barrier_block numbers.kappa numbers.dhat near split points;
}
