-- A contact as the code holds it.
use Rattle.friction_lag.specs.declared.contacts.Contact.{Contact}
use Rattle.friction_lag.specs.Contacts.{LaggedContact}

-- what a frame keeps, without the facts that the type keeps of it
abbrev pub lagged_in : Contact → LaggedContact
lagged_in c = record { nodes = c.nodes; signed = c.signed; from = c.from; force = c.force; normal = c.normal }
