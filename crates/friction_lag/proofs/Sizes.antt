-- How great the parts of friction are, and how many.
use Rattle.std.proofs.Common.{◌≡◌, ◌∙◌, ℕ, ◌^◌, ℤ, pos, ◌*ℤ◌, List, length}
use Rattle.std.specs.Prelude.{All, slice_index_or}
use Rattle.std.proofs.lemmas.List.{length-map}
use Rattle.std.proofs.lemmas.List.Elements.{All-map}
use Rattle.num_q.specs.Rounding.{floor_of}
use Rattle.space3.specs.declared.vectors.V3.{V3}
use Rattle.space3.specs.Vectors.{AtMost, Within, vector}
use Rattle.vec_q.proofs.CutVectors.{cut_at_most, cuts_within}
use Rattle.nearest.proofs.Balance.{length-signed}
use Rattle.near_pair.specs.declared.near.Near.{Near}
use Rattle.friction_lag.specs.Friction.{drag_of, friction_block, friction_energy, friction_gradient, pull_at, slide_of, smooth_length, slip_of}
use Rattle.friction_lag.specs.Contacts.{LaggedContact, contact_of, length_of}

-- a pull along an axis before it is cut
abbrev along : ℤ → ℤ → ℤ → ℤ
along drag slide weight = floor_of (floor_of (drag *ℤ slide) (pos (2 ^ 32)) *ℤ weight) (pos (2 ^ 16))

pub energy_is_small : (c : LaggedContact) (friction slip : ℤ) (places : List V3) → AtMost (2 ^ 90) (friction_energy c friction slip places)
energy_is_small c friction slip places =
    cut_at_most 90 (floor_of (friction *ℤ c.force *ℤ smooth_length (length_of (slide_of c places)) (slip_of slip)) (pos (2 ^ 24)))

-- a pull at each signed weight
pub as_many_pulls : (c : LaggedContact) (friction slip : ℤ) (places : List V3) → length (friction_gradient c friction slip places) ≡ length c.signed
as_many_pulls c friction slip places = let slide = slide_of c places in length-map c.signed (pull_at (drag_of c friction slip slide) slide)

-- so of a pair's contact as many as the nearest points have
pub as_many_of_pair : (near : Near) (slope : ℤ) (split : ℕ) (nodes : List ℕ) (from : List V3) (friction slip : ℤ) (places : List V3) →
    length (friction_gradient (contact_of near slope split nodes from) friction slip places) ≡ length near.weights
as_many_of_pair near slope split nodes from friction slip places =
    as_many_pulls (contact_of near slope split nodes from) friction slip places ∙ length-signed split near.weights

pub pulls_are_small : (c : LaggedContact) (friction slip : ℤ) (places : List V3) → All (Within (2 ^ 90)) (friction_gradient c friction slip places)
pulls_are_small c friction slip places =
    let slide = slide_of c places in
    let drag = drag_of c friction slip slide in
    All-map (Within (2 ^ 90)) (pull_at drag slide) c.signed
    (λ k weight l. small drag slide (slice_index_or c.signed k weight))
  where
    small : (drag : ℤ) (slide : V3) (weight : ℤ) → Within (2 ^ 90) (pull_at drag slide weight)
    small drag slide weight = cuts_within 90 (along drag slide.x weight) (along drag slide.y weight) (along drag slide.z weight)

-- the diagonal of a block
pub block_is_small : (c : LaggedContact) (friction slip : ℤ) (places : List V3) (i j : ℕ) →
    let block = friction_block c friction slip places i j in Within (2 ^ 86) (vector block.first.x block.second.y block.third.z)
block_is_small c friction slip places i j =
    let entry = floor_of (drag_of c friction slip (slide_of c places) *ℤ slice_index_or c.signed i (pos 0) *ℤ slice_index_or c.signed j (pos 0)) (pos (2 ^ 48)) in
    cuts_within 86 entry entry entry
