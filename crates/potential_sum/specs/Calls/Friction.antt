-- Contacts whose parts may have moved.
use Rattle.std.specs.Prelude.{◌≡◌, List, length}
use Rattle.space3.specs.declared.vectors.V3.{V3}
use Rattle.space3.specs.Mesh.{HasNodes}
use Rattle.surface_mesh.specs.declared.materials.Numbers.{Numbers}
use Rattle.friction_lag.specs.declared.contacts.Contact.{Contact}
use Rattle.friction_lag.specs.Contacts.{LaggedContact}
use Rattle.friction_lag.specs.Lagged.{lagged_in}
use Rattle.potential_sum.specs.Calls.Barriers.{AreDifferent}
use Rattle.potential_sum.specs.Contributions.{Contribution, friction_contribution}

-- a contact may slide at these places: its four nodes differ, and each has a place
pub record MaySlide (places : List V3) (contact : LaggedContact) : Type 0 where
  pub four : length contact.nodes ≡ 4
  pub there : HasNodes places contact.nodes
  pub different : AreDifferent contact.nodes

-- the friction of a contact as the code holds it
abbrev pub friction_at : Numbers → (places : List V3) → Contact → Contribution
friction_at numbers places contact = friction_contribution numbers places (lagged_in contact)
