-- The numbers of an example, computed.
use Rattle.std.proofs.Common.{◌≡◌, ◌^◌, ℤ, pos, negsuc, ◌*ℤ◌, List, [], ◌∷◌, map, refl, sym, ◌∙◌, ap, arith}
use Rattle.std.specs.Prelude.{zip, Some, slice_get}
use Rattle.num_q.specs.Rounding.{floor_of, cut_of}
use Rattle.fixed_log.proofs.Roots.{root-is}
use Rattle.space3.specs.declared.vectors.V3.{V3}
use Rattle.space3.specs.Vectors.{origin, vector, difference}
use Rattle.vec_q.specs.Rows.{vector_of}
use Rattle.nearest.specs.SignedWeights.{signed_sum}
use Rattle.friction_lag.specs.Contacts.{LaggedContact, length_of}
use Rattle.friction_lag.specs.Examples.{IsUpright, slid}
use Rattle.friction_lag.specs.Friction.{across, pull_at, slip_of, smooth_length, smooth_rate, friction_energy, friction_gradient}

-- the formulas over the fields of a contact
abbrev slide : List ℤ → List V3 → List ℤ → V3
slide signed from normal = across (vector_of normal) (signed_sum signed (map (λ pair. difference pair.0 pair.1) (zip slid from)))

abbrev energy_of : List ℤ → List V3 → ℤ → List ℤ → ℤ
energy_of signed from force normal = cut_of 90 (floor_of (pos 128 *ℤ force *ℤ smooth_length (length_of (slide signed from normal)) (slip_of (pos 2))) (pos (2 ^ 24)))

abbrev drag : List ℤ → List V3 → ℤ → List ℤ → ℤ
drag signed from force normal = floor_of (pos 128 *ℤ force *ℤ smooth_rate (length_of (slide signed from normal)) (slip_of (pos 2))) (pos (2 ^ 16))

abbrev gradient_of : List ℤ → List V3 → ℤ → List ℤ → List V3
gradient_of signed from force normal = map (pull_at (drag signed from force normal) (slide signed from normal)) signed

abbrev weights : List ℤ
weights = pos 65536 ∷ negsuc 65535 ∷ pos 0 ∷ pos 0 ∷ []

abbrev places : List V3
places = origin ∷ origin ∷ origin ∷ origin ∷ []

abbrev up : List ℤ
up = pos 0 ∷ pos 0 ∷ pos 65536 ∷ []

upright : slide weights places up ≡ vector (pos 65536) (pos 0) (pos 0)
upright = refl

length : length_of (slide weights places up) ≡ 65536
length = ap length_of upright ∙ sym (root-is 4294967296 65536 (omega arith) (omega arith) (omega arith))

computed : energy_of weights places (pos 1048576) up ≡ pos 567976
computed i = cut_of 90 (floor_of (pos 128 *ℤ pos 1048576 *ℤ smooth_length (length i) (slip_of (pos 2))) (pos (2 ^ 24)))

dragged : drag weights places (pos 1048576) up ≡ floor_of (pos 128 *ℤ pos 1048576 *ℤ smooth_rate 65536 131072) (pos (2 ^ 16))
dragged i = floor_of (pos 128 *ℤ pos 1048576 *ℤ smooth_rate (length i) (slip_of (pos 2))) (pos (2 ^ 16))

pulled : slice_get (gradient_of weights places (pos 1048576) up) 0 ≡ Some (vector (pos 393216) (pos 0) (pos 0))
pulled i = slice_get (map (pull_at (dragged i) (upright i)) weights) 0

pub energy : (c : LaggedContact) → IsUpright c → friction_energy c (pos 128) (pos 2) slid ≡ pos 567976
energy c h = (λ i. energy_of (h.signed i) (h.from i) (h.force i) (h.normal i)) ∙ computed

pub gradient : (c : LaggedContact) → IsUpright c → slice_get (friction_gradient c (pos 128) (pos 2) slid) 0 ≡ Some (vector (pos 393216) (pos 0) (pos 0))
gradient c h = (λ i. slice_get (gradient_of (h.signed i) (h.from i) (h.force i) (h.normal i)) 0) ∙ pulled
