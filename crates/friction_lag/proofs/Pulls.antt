-- The pulls of friction cancel but for roundings.
use Rattle.std.proofs.Common.{◌≡◌, ℕ, ◌≤◌, ◌<◌, ◌^◌, ℤ, pos, negsuc, ◌*ℤ◌, neg_ℤ, ◌≤ℤ◌, ◌<ℤ◌, List, map, length, unsigned_abs, sym, subst, arith}
use Rattle.std.proofs.lemmas.Int.{ints}
use Rattle.num_q.specs.Rounding.{floor_of}
use Rattle.num_q.proofs.Bounds.{cut_same}
use Rattle.whole_laws.specs.Ranges.{IsFrom}
use Rattle.whole_laws.proofs.Order.{size_prod}
use Rattle.space3.specs.declared.vectors.V3.{V3}
use Rattle.vec_q.specs.Widths.{IsBelow}
use Rattle.nearest.specs.Cancelling.{AlmostCancel}
use Rattle.nearest.specs.RoundedWeights.{total}
use Rattle.nearest.specs.SignedWeights.{AreBalanced}
use Rattle.nearest.proofs.Balance.{each_at_most}
use Rattle.nearest.proofs.Cancelling.{quotient_size, same-total, shared, shares_cancel, total-along}
use Rattle.friction_lag.specs.Friction.{pull, pull_at}

part_positive : pos 0 <ℤ pos (2 ^ 32)
part_positive = omega (arith, ints)

weight_positive : pos 0 <ℤ pos (2 ^ 16)
weight_positive = omega (arith, ints)

at_most : (m n : ℕ) → m < n → m ≤ n
at_most m n h = omega arith

-- the force along an axis
abbrev force : ℤ → ℤ → ℤ
force drag slide = floor_of (drag *ℤ slide) (pos (2 ^ 32))

small_force : (drag slide : ℤ) → unsigned_abs drag < 2 ^ 80 → unsigned_abs slide < 2 ^ 41 → unsigned_abs (force drag slide) ≤ 2 ^ 89
small_force drag slide hd hs = quotient_size (2 ^ 89) (drag *ℤ slide) (pos (2 ^ 32)) part_positive (low _ bound) (high _ bound)
  where
    bound : unsigned_abs (drag *ℤ slide) ≤ 2 ^ 121
    bound = size_prod drag slide (2 ^ 80) (2 ^ 41) (at_most _ _ hd) (at_most _ _ hs)

    low : (z : ℤ) → unsigned_abs z ≤ 2 ^ 121 → (neg_ℤ (pos (2 ^ 89)) *ℤ pos (2 ^ 32)) ≤ℤ z
    low z h = omega (arith, ints)

    high : (z : ℤ) → unsigned_abs z ≤ 2 ^ 121 → z ≤ℤ (pos (2 ^ 89) *ℤ pos (2 ^ 32))
    high z h = omega (arith, ints)

small_share : (f w : ℤ) → unsigned_abs f ≤ 2 ^ 89 → unsigned_abs w ≤ 65536 → unsigned_abs (floor_of (f *ℤ w) (pos (2 ^ 16))) < 2 ^ 90
small_share f w hf hw = weaker _ (quotient_size (2 ^ 89) (f *ℤ w) (pos (2 ^ 16)) weight_positive (low _ bound) (high _ bound))
  where
    bound : unsigned_abs (f *ℤ w) ≤ 2 ^ 105
    bound = size_prod f w (2 ^ 89) 65536 hf hw

    low : (z : ℤ) → unsigned_abs z ≤ 2 ^ 105 → (neg_ℤ (pos (2 ^ 89)) *ℤ pos (2 ^ 16)) ≤ℤ z
    low z h = omega (arith, ints)

    high : (z : ℤ) → unsigned_abs z ≤ 2 ^ 105 → z ≤ℤ (pos (2 ^ 89) *ℤ pos (2 ^ 16))
    high z h = omega (arith, ints)

    weaker : (m : ℕ) → m ≤ 2 ^ 89 → m < 2 ^ 90
    weaker m h = omega arith

along : (drag c : ℤ) (weights : List ℤ) → unsigned_abs drag < 2 ^ 80 → unsigned_abs c < 2 ^ 41 → length weights ≡ 4 → AreBalanced weights → IsFrom (negsuc 2) (pos 0) (total (map (λ w. pull drag c w) weights))
along drag c weights hd hc four balanced =
    subst (IsFrom (negsuc 2) (pos 0))
    (sym (same-total (λ w. pull drag c w) (shared (pos (2 ^ 16)) (force drag c)) weights (λ w hw. cut_same 90 _ (small_share (force drag c) w (small_force drag c hd hc) hw)) (each_at_most weights balanced)))
    (shares_cancel (pos (2 ^ 16)) (force drag c) weights weight_positive four balanced)

pub pulls_cancel : (k : ℤ) (way : V3) (weights : List ℤ) → unsigned_abs k < 2 ^ 80 → IsBelow 41 way → length weights ≡ 4 → AreBalanced weights → AlmostCancel (map (pull_at k way) weights)
pulls_cancel k way weights hk h four balanced = record {
  x = subst (IsFrom (negsuc 2) (pos 0)) (sym (total-along (λ (p : V3). p.x) (pull_at k way) weights)) (along k way.x weights hk h.x four balanced);
  y = subst (IsFrom (negsuc 2) (pos 0)) (sym (total-along (λ (p : V3). p.y) (pull_at k way) weights)) (along k way.y weights hk h.y four balanced);
  z = subst (IsFrom (negsuc 2) (pos 0)) (sym (total-along (λ (p : V3). p.z) (pull_at k way) weights)) (along k way.z weights hk h.z four balanced);
}
