-- What the potential of a frame is made of beside its bodies.
use Rattle.std.specs.Prelude.{◌≡◌, ◌≤◌, List, map, zip, length, unsigned_abs, All}
use Rattle.std.specs.List.Sorted.{IsPermutation}
use Rattle.space3.specs.declared.vectors.V3.{V3}
use Rattle.space3.specs.Vectors.{Within}
use Rattle.broad_grid.specs.Kept.{IsWhole, KeptPairs}
use Rattle.surface_mesh.specs.declared.setup.Setup.{Setup}
use Rattle.inertia_term.specs.declared.target.TheConstants.{FARTHEST_TARGET}
use Rattle.inertia_term.specs.Inertia.{target_of}
use Rattle.friction_lag.specs.Contacts.{LaggedContact}
use Rattle.potential_sum.specs.Bodies.{ElasticTet}
use Rattle.potential_sum.specs.Contacts.{IsBetweenParts, contacts_of}
use Rattle.potential_sum.specs.Held.{HeldSum, IsHeldEnergy, loose_tets}
use Rattle.potential_sum.specs.declared.contacts.TheConstants.{MOST_CLOSE}

-- what a frame gives the potential: one target per node, in 1/256 grid unit, and the contacts where it begins
pub record FrameTerms : Type 0 where
  pub targets : List V3
  pub contacts : List LaggedContact

-- the targets of nodes that stand at `now` after they stood at `before`
abbrev pub targets_of : V3 → (now before : List V3) → List V3
targets_of gravity now before = map (λ node. target_of gravity node.0 node.1) (zip now before)

-- the terms of a frame that begins at the places `now` after the places `before`
abbrev pub terms_of : Setup → (now before : List V3) → FrameTerms
terms_of setup now before =
    record { targets = targets_of setup.numbers.gravity now before; contacts = contacts_of setup now }

-- the terms of a frame, and what is kept of the bodies, of the energy that no free node changes, and of the pairs that
-- were near as it began
pub record KeptTerms : Type 0 where
  pub frame : FrameTerms
  pub elastic : List ElasticTet
  pub held : HeldSum
  pub near_pairs : KeptPairs

-- near pairs that are kept are of this setup: all of its surface that are near, by a reach of dhat, with one kept place
-- per node
pub record AreNearPairs (setup : Setup) (kept : KeptPairs) : Type 0 where
  pub each : length kept.places ≡ length setup.mesh.numbers
  pub fixed : kept.fixed ≡ setup.fixed
  pub reach : kept.reach ≡ unsigned_abs setup.numbers.dhat
  pub whole : IsWhole setup.surface kept

-- The terms are of this setup: one target per node, none too far; contacts between parts of its surface, not too many;
-- and what is kept is of its loose tetrahedra, in some order, of the energy of the others, and of its near pairs.
pub record StandFor (setup : Setup) (terms : KeptTerms) : Type 0 where
  pub each : length terms.frame.targets ≡ length setup.mesh.numbers
  pub near : All (Within FARTHEST_TARGET) terms.frame.targets
  pub contacts : All (IsBetweenParts setup) terms.frame.contacts
  pub few : length terms.frame.contacts ≤ MOST_CLOSE
  pub elastic : IsPermutation (loose_tets setup) terms.elastic
  pub held : IsHeldEnergy setup terms.held
  pub pairs : AreNearPairs setup terms.near_pairs
