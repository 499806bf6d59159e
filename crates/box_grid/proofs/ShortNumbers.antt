-- Components of corners in 32 bits.
use Rattle.std.proofs.Common.{◌≡◌, ◌∙◌, ◌+◌, ℤ, pos, neg_ℤ, ◌-ℤ◌, ap, arith, w32, w64, to_z, of_z}
use mir.Val.{SFits}
use Rattle.std.proofs.lemmas.Int.{ints, fits_signed_from_abs, to_z-of_z}
use Rattle.space3.specs.Vectors.{AtMost}
use Rattle.space3.specs.declared.places.TheConstants.{BOX_LIMIT}
use Rattle.box_grid.specs.declared.limits.TheConstants.{REACH_LIMIT}

pub short_is : (z v : ℤ) → SFits w32 z → z ≡ v → to_z w32 (of_z w32 z) ≡ v
short_is z v l e = to_z-of_z w32 z l ∙ e

pub component_is : (z v : ℤ) → SFits w32 z → AtMost (BOX_LIMIT + REACH_LIMIT) v → z ≡ to_z w64 (of_z w64 v) → to_z w32 (of_z w32 z) ≡ v
component_is z v l h e = short_is z v l (e ∙ to_z-of_z w64 v (fits_signed_from_abs w64 v (omega (arith, h.bound))))

pub opposite_is : (z v : ℤ) → SFits w32 z → AtMost (BOX_LIMIT + REACH_LIMIT) v → z ≡ to_z w64 (of_z w64 v) → to_z w32 (of_z w32 (pos 0 -ℤ to_z w32 (of_z w32 z))) ≡ neg_ℤ v
opposite_is z v l h e =
    ap (λ u. to_z w32 (of_z w32 (pos 0 -ℤ u))) (component_is z v l h e)
    ∙ short_is (pos 0 -ℤ v) (neg_ℤ v) (fits_signed_from_abs w32 (pos 0 -ℤ v) (omega (arith, ints, h.bound))) (omega (arith, ints))
