-- The pulls of a barrier cancel but for roundings.
use Rattle.std.proofs.Common.{◌≡◌, ℕ, ◌≤◌, ◌<◌, ◌^◌, ℤ, pos, negsuc, ◌*ℤ◌, neg_ℤ, ◌≤ℤ◌, ◌<ℤ◌, List, [], ◌∷◌, map, length, unsigned_abs, sym, ◌∙◌, ap, subst, arith}
use Rattle.std.proofs.lemmas.Int.{ints}
use Rattle.num_q.specs.Rounding.{floor_of}
use Rattle.num_q.proofs.Bounds.{cut_same}
use Rattle.whole_laws.specs.Ranges.{IsFrom}
use Rattle.whole_laws.proofs.Order.{size_prod}
use Rattle.whole_laws.proofs.Ring.{ring, v, ◌⊗◌}
use Rattle.space3.specs.declared.vectors.V3.{V3}
use Rattle.vec_q.specs.Widths.{IsBelow}
use Rattle.nearest.specs.Cancelling.{AlmostCancel}
use Rattle.nearest.specs.RoundedWeights.{total}
use Rattle.nearest.specs.SignedWeights.{AreBalanced}
use Rattle.nearest.proofs.Balance.{each_at_most}
use Rattle.nearest.proofs.Cancelling.{quotient_size, same-total, shared, shares_cancel, total-along}
use Rattle.barrier_term.specs.Gradients.{pull, pull_at}

half_positive : pos 0 <ℤ pos (2 ^ 39)
half_positive = omega (arith, ints)

small : (k w c : ℤ) → unsigned_abs k < 2 ^ 73 → unsigned_abs w ≤ 65536 → unsigned_abs c < 2 ^ 34 → unsigned_abs (floor_of (k *ℤ w *ℤ c) (pos (2 ^ 39))) < 2 ^ 90
small k w c hk hw hc = weaker _ (quotient_size (2 ^ 84) (k *ℤ w *ℤ c) (pos (2 ^ 39)) half_positive (low _ bound) (high _ bound))
  where
    at_most : (m n : ℕ) → m < n → m ≤ n
    at_most m n h = omega arith

    bound : unsigned_abs (k *ℤ w *ℤ c) ≤ 2 ^ 123
    bound = size_prod (k *ℤ w) c (2 ^ 89) (2 ^ 34) (size_prod k w (2 ^ 73) 65536 (at_most _ _ hk) hw) (at_most _ _ hc)

    low : (z : ℤ) → unsigned_abs z ≤ 2 ^ 123 → (neg_ℤ (pos (2 ^ 84)) *ℤ pos (2 ^ 39)) ≤ℤ z
    low z h = omega (arith, ints)

    high : (z : ℤ) → unsigned_abs z ≤ 2 ^ 123 → z ≤ℤ (pos (2 ^ 84) *ℤ pos (2 ^ 39))
    high z h = omega (arith, ints)

    weaker : (m : ℕ) → m ≤ 2 ^ 84 → m < 2 ^ 90
    weaker m h = omega arith

along : (k c : ℤ) (weights : List ℤ) → unsigned_abs k < 2 ^ 73 → unsigned_abs c < 2 ^ 34 → length weights ≡ 4 → AreBalanced weights → IsFrom (negsuc 2) (pos 0) (total (map (λ w. pull k w c) weights))
along k c weights hk hc four balanced =
    subst (IsFrom (negsuc 2) (pos 0))
    (sym (same-total (λ w. pull k w c) (shared (pos (2 ^ 39)) (k *ℤ c)) weights (λ w hw. cut_same 90 _ (small k w c hk hw hc) ∙ ap (λ z. floor_of z (pos (2 ^ 39))) (ring (k ∷ w ∷ c ∷ []) (v 0 ⊗ v 1 ⊗ v 2) ((v 0 ⊗ v 2) ⊗ v 1) tt)) (each_at_most weights balanced)))
    (shares_cancel (pos (2 ^ 39)) (k *ℤ c) weights half_positive four balanced)

pub pulls_cancel : (k : ℤ) (way : V3) (weights : List ℤ) → unsigned_abs k < 2 ^ 73 → IsBelow 34 way → length weights ≡ 4 → AreBalanced weights → AlmostCancel (map (pull_at k way) weights)
pulls_cancel k way weights hk h four balanced = record {
  x = subst (IsFrom (negsuc 2) (pos 0)) (sym (total-along (λ (p : V3). p.x) (pull_at k way) weights)) (along k way.x weights hk h.x four balanced);
  y = subst (IsFrom (negsuc 2) (pos 0)) (sym (total-along (λ (p : V3). p.y) (pull_at k way) weights)) (along k way.y weights hk h.y four balanced);
  z = subst (IsFrom (negsuc 2) (pos 0)) (sym (total-along (λ (p : V3). p.z) (pull_at k way) weights)) (along k way.z weights hk h.z four balanced);
}
