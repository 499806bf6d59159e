-- A contact in small numbers.
use Rattle.std.specs.Prelude.{◌≡◌, pos, negsuc, [], ◌∷◌, List}
use Rattle.space3.specs.declared.vectors.V3.{V3}
use Rattle.space3.specs.Vectors.{origin, vector}
use Rattle.friction_lag.specs.Contacts.{LaggedContact}

-- a force of 2^20 along z, between a point at the origin and another there
pub record IsUpright (c : LaggedContact) : Type 0 where
  pub signed : c.signed ≡ pos 65536 ∷ negsuc 65535 ∷ pos 0 ∷ pos 0 ∷ []
  pub from : c.from ≡ origin ∷ origin ∷ origin ∷ origin ∷ []
  pub force : c.force ≡ pos 1048576
  pub normal : c.normal ≡ pos 0 ∷ pos 0 ∷ pos 65536 ∷ []

-- the first point slid by 1 along x and rose by 5, the others stood
abbrev pub slid : List V3
slid = vector (pos 1) (pos 0) (pos 5) ∷ origin ∷ origin ∷ origin ∷ []
