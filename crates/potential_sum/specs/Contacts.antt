-- Close parts of the surface, and what a frame keeps of those that push each other as it begins.
use Rattle.std.specs.Prelude.{◌≡◌, ℕ, Bool, List, ◌++◌, length, map, filter, nat_lt, unsigned_abs}
use Rattle.space3.specs.declared.vectors.V3.{V3}
use Rattle.space3.specs.Mesh.{place_of}
use Rattle.safe_motion.specs.Safety.{PartPair}
use Rattle.boundary.specs.declared.pairs.Pair.{Pair}
use Rattle.boundary.specs.Pairs.{IsPair, part_pair}
use Rattle.broad_grid.specs.NearPairs.{close_pairs_of}
use Rattle.surface_mesh.specs.declared.materials.Numbers.{Numbers}
use Rattle.surface_mesh.specs.declared.setup.Setup.{Setup}
use Rattle.near_pair.specs.declared.near.Near.{Near}
use Rattle.near_pair.specs.Answers.{near_between, squared_distance}
use Rattle.barrier_term.specs.Barrier.{barrier_slope, reach_of}
use Rattle.friction_lag.specs.Contacts.{LaggedContact, contact_of}

-- a point and a triangle, or two edges, whose boxes have a gap of at most dhat along each axis
abbrev pub close_parts : Setup → (places : List V3) → List PartPair
close_parts setup places =
    map (part_pair setup.surface) (close_pairs_of (unsigned_abs setup.numbers.dhat) setup.surface places)

-- the nodes of two parts, those of the first part first, and where they stand
abbrev pub nodes_of_parts : PartPair → List ℕ
nodes_of_parts parts = parts.left ++ parts.right

abbrev pub points_of_parts : (places : List V3) → PartPair → List V3
points_of_parts places parts = map (place_of places) parts.left ++ map (place_of places) parts.right

-- their nearest points
abbrev pub near_of_parts : (places : List V3) → PartPair → Near
near_of_parts places parts = near_between (map (place_of places) parts.left) (map (place_of places) parts.right)

-- they are nearer than dhat
abbrev pub is_active : Numbers → (places : List V3) → PartPair → Bool
is_active numbers places parts = nat_lt (squared_distance (near_of_parts places parts)) (reach_of numbers.dhat)

-- what a frame keeps of two parts that are where it begins
abbrev pub contact_at : Numbers → (places : List V3) → PartPair → LaggedContact
contact_at numbers places parts =
    let near = near_of_parts places parts in
    contact_of near (barrier_slope numbers.kappa numbers.dhat near) (length parts.left) (nodes_of_parts parts) (points_of_parts places parts)

-- the contacts of a frame that begins at these places: those of all parts that are nearer than dhat there
abbrev pub contacts_of : Setup → (places : List V3) → List LaggedContact
contacts_of setup places =
    map (contact_at setup.numbers places) (filter (is_active setup.numbers places) (close_parts setup places))

-- a contact is between the parts of a pair of the surface, of four nodes
pub record IsBetweenParts (setup : Setup) (contact : LaggedContact) : Type 0 where
  pub pair : Pair
  pub is_pair : IsPair setup.surface pair
  pub nodes : contact.nodes ≡ nodes_of_parts (part_pair setup.surface pair)
  pub four : length contact.nodes ≡ 4
