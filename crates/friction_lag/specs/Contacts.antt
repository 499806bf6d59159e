-- What a frame keeps of a pair that is in contact as it begins.
use Rattle.std.specs.Prelude.{ℕ, ◌*◌, ◌^◌, ◌-◌, ℤ, pos, ◌*ℤ◌, neg_ℤ, unsigned_abs, List, All, nat_eq, if◌then◌else◌}
use Rattle.whole_laws.specs.Ranges.{IsFrom}
use Rattle.num_q.specs.Rounding.{floor_of, cut_of}
use Rattle.fixed_log.specs.Root.{root_of}
use Rattle.space3.specs.declared.vectors.V3.{V3}
use Rattle.space3.specs.Vectors.{AtMost, vector, squared_length}
use Rattle.space3.specs.Box.{IsInTheBox}
use Rattle.vec_q.specs.Rows.{components}
use Rattle.nearest.specs.declared.limits.TheConstants.{ONE}
use Rattle.nearest.specs.SignedWeights.{AreBalanced, signed_sum, signed_weights}
use Rattle.near_pair.specs.declared.near.Near.{Near}
use Rattle.near_pair.specs.Answers.{squared_distance}

-- the length of a vector, rounded down
abbrev pub length_of : V3 → ℕ
length_of a = root_of (unsigned_abs (squared_length a))

-- the force across the contact: minus the slope of the barrier, times the distance
abbrev pub force_of : ℤ → Near → ℤ
force_of slope near = cut_of 60 (floor_of (neg_ℤ slope *ℤ pos (root_of (256 * squared_distance near))) (pos (2 ^ 15)))

-- a component of the unit vector, with 16 fraction bits, where the vector has a length
abbrev pub unit_along : ℕ → ℤ → ℤ
unit_along len c = if nat_eq len 0 then pos 0 else floor_of (c *ℤ pos ONE) (pos len)

-- the unit vector along the way between the nearest points
abbrev pub normal_of : V3 → V3
normal_of way =
    let len = length_of way in vector (unit_along len way.x) (unit_along len way.y) (unit_along len way.z)

-- what a frame keeps of a contact
pub record LaggedContact : Type 0 where
  pub nodes : List ℕ
  pub signed : List ℤ
  pub from : List V3
  pub force : ℤ
  pub normal : List ℤ

-- what it keeps of a pair with these nodes at the places `from`, of which the first part has `split`, by their nearest
-- points and the slope of the barrier
abbrev pub contact_of : (near : Near) (slope : ℤ) (split : ℕ) (nodes : List ℕ) (from : List V3) → LaggedContact
contact_of near slope split nodes from =
    let signed = signed_weights split near.weights in record {
      nodes = nodes;
      signed = signed;
      from = from;
      force = force_of slope near;
      normal = components (normal_of (signed_sum signed from));
    }

-- signed weights, a force, a normal and places as a contact has them
pub record IsContact (signed : List ℤ) (from : List V3) (force : ℤ) (normal : List ℤ) : Type 0 where
  pub balanced : AreBalanced signed
  pub placed : All IsInTheBox from
  pub pressing : IsFrom (pos 0) (pos (2 ^ 60 - 1)) force
  pub unit : All (AtMost ONE) normal
