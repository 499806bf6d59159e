-- The sum of ways from the first point is narrow, and it is the way between the nearest points.
use Rattle.std.proofs.Common.{◌≡◌, ℕ, zero, suc, ◌+◌, ◌*◌, ◌≤◌, ◌<◌, ◌^◌, ℤ, pos, ◌+ℤ◌, ◌-ℤ◌, ◌*ℤ◌, neg_ℤ, ◌≤ℤ◌, List, [], ◌∷◌, take, drop, length, unsigned_abs, subst, inl, inr, arith}
use Rattle.std.proofs.lemmas.Int.{ints}
use Rattle.std.proofs.lemmas.List.Elements.{recursion_from_All}
use Rattle.list_laws.proofs.Fours.{four_of}
use Rattle.whole_laws.proofs.Order.{size_prod}
use Rattle.whole_laws.proofs.Ring.{ring_by, v, num, neg, ◌⊕◌, ◌⊖◌, ◌⊗◌}
use Rattle.space3.specs.declared.vectors.V3.{V3}
use Rattle.space3.specs.Vectors.{Within, origin, sum_of, difference, multiple}
use Rattle.space3.proofs.Combinations.{same_vector}
use Rattle.vec_q.specs.Widths.{IsBelow}
use Rattle.nearest.specs.declared.limits.TheConstants.{EDGE_LIMIT, APART_LIMIT}
use Rattle.nearest.specs.Close.{AreClose}
use Rattle.nearest.specs.RoundedWeights.{total, AreOfTwoParts}
use Rattle.nearest.specs.SignedWeights.{signed_weights, signed_sum}
use Rattle.nearest.proofs.Balance.{balanced, each_at_most, total-zero}
use Rattle.near_pair.specs.declared.near.Near.{Near}
use Rattle.near_pair.specs.Answers.{IsOn, IsSplit}
use Rattle.near_pair.specs.Calls.SumsOfWays.{way_to, sum_of_ways, AreNarrow}
use Rattle.near_pair.proofs.Reach.{away, away_within, edge}

-- weights that add up to 0 see ways from any point
pub same-sum : (a b c d : ℤ) (p q r s : V3) → total (a ∷ b ∷ c ∷ d ∷ []) ≡ pos 0 → sum_of_ways (a ∷ b ∷ c ∷ d ∷ []) (p ∷ q ∷ r ∷ s ∷ []) ≡ signed_sum (a ∷ b ∷ c ∷ d ∷ []) (p ∷ q ∷ r ∷ s ∷ [])
same-sum a b c d p q r s e = same_vector _ _ (one p.x q.x r.x s.x) (one p.y q.y r.y s.y) (one p.z q.z r.z s.z)
  where
    one : (p q r s : ℤ) → (b *ℤ (q -ℤ p) +ℤ c *ℤ (r -ℤ p)) +ℤ d *ℤ (s -ℤ p) ≡ a *ℤ p +ℤ (b *ℤ q +ℤ (c *ℤ r +ℤ (d *ℤ s +ℤ pos 0)))
    one p q r s =
        ring_by (a ∷ b ∷ c ∷ d ∷ p ∷ q ∷ r ∷ s ∷ [])
        ((v 1 ⊗ (v 5 ⊖ v 4) ⊕ v 2 ⊗ (v 6 ⊖ v 4)) ⊕ v 3 ⊗ (v 7 ⊖ v 4))
        (v 0 ⊗ v 4 ⊕ (v 1 ⊗ v 5 ⊕ (v 2 ⊗ v 6 ⊕ (v 3 ⊗ v 7 ⊕ num (pos 0)))))
        (neg (v 4)) (v 0 ⊕ (v 1 ⊕ (v 2 ⊕ (v 3 ⊕ num (pos 0))))) (num (pos 0)) e tt

-- a sum of three products, by the sizes of weights and ways
small : (b c d x y z : ℤ) (k l m : ℕ) → unsigned_abs x ≤ k → unsigned_abs y ≤ l → unsigned_abs z ≤ m → unsigned_abs b * k + unsigned_abs c * l + unsigned_abs d * m < 2 ^ 34 → unsigned_abs ((b *ℤ x +ℤ c *ℤ y) +ℤ d *ℤ z) < 2 ^ 34
small b c d x y z k l m hx hy hz h = sum (b *ℤ x) (c *ℤ y) (d *ℤ z) _ _ _ (size_prod b x (unsigned_abs b) k itself hx) (size_prod c y (unsigned_abs c) l itself hy) (size_prod d z (unsigned_abs d) m itself hz) h
  where
    itself : {n : ℕ} → n ≤ n
    itself = omega arith

    sum : (t u w : ℤ) (k l m : ℕ) → unsigned_abs t ≤ k → unsigned_abs u ≤ l → unsigned_abs w ≤ m → k + l + m < 2 ^ 34 → unsigned_abs ((t +ℤ u) +ℤ w) < 2 ^ 34
    sum t u w k l m f g h i = omega (arith, ints)

narrow : (b c d : ℤ) (f g h : V3) (k l m : ℕ) → Within k f → Within l g → Within m h → unsigned_abs b * k + unsigned_abs c * l + unsigned_abs d * m < 2 ^ 34 → IsBelow 34 (sum_of (sum_of (multiple b f) (multiple c g)) (multiple d h))
narrow b c d f g h k l m hf hg hh small_sum = record {
  x = small b c d f.x g.x h.x k l m hf.x.bound hg.x.bound hh.x.bound small_sum;
  y = small b c d f.y g.y h.y k l m hf.y.bound hg.y.bound hh.y.bound small_sum;
  z = small b c d f.z g.z h.z k l m hf.z.bound hg.z.bound hh.z.bound small_sum;
}

by_place : (p q r s : V3) → IsBelow 18 (difference q p) → IsBelow 18 (difference r p) → IsBelow 18 (difference s p) → (k : ℕ) → 0 < k → k < 4 → IsBelow 18 (way_to (p ∷ q ∷ r ∷ s ∷ []) k)
by_place p q r s f g h zero low high = absurd (omega arith)
by_place p q r s f g h (suc zero) low high = f
by_place p q r s f g h (suc (suc zero)) low high = g
by_place p q r s f g h (suc (suc (suc zero))) low high = h
by_place p q r s f g h (suc (suc (suc (suc k)))) low high = absurd (omega arith)

abbrev IsNonneg : ℤ → Type 0
IsNonneg w = pos 0 ≤ℤ w

narrow_vt : (a b c d : ℤ) (p q r s : V3) → AreClose (p ∷ []) (q ∷ r ∷ s ∷ []) → AreOfTwoParts 1 (a ∷ b ∷ c ∷ d ∷ []) → AreNarrow (signed_weights 1 (a ∷ b ∷ c ∷ d ∷ [])) (p ∷ q ∷ r ∷ s ∷ [])
narrow_vt a b c d p q r s close w =
    let xs = p ∷ [] in
    let ys = q ∷ r ∷ s ∷ [] in
    let h = recursion_from_All IsNonneg (b ∷ c ∷ d ∷ []) w.right.each in
    let even = balanced 1 (a ∷ b ∷ c ∷ d ∷ []) w in record {
      each = each_at_most _ even;
      ways = by_place p q r s (away xs ys close 0 0 origin origin (omega arith) (omega arith)) (away xs ys close 0 1 origin origin (omega arith) (omega arith)) (away xs ys close 0 2 origin origin (omega arith) (omega arith));
      sum = narrow (neg_ℤ b) (neg_ℤ c) (neg_ℤ d) _ _ _ APART_LIMIT APART_LIMIT APART_LIMIT
          (away_within xs ys close 0 0 origin origin (omega arith) (omega arith)) (away_within xs ys close 0 1 origin origin (omega arith) (omega arith)) (away_within xs ys close 0 2 origin origin (omega arith) (omega arith))
          (few b c d h.0 h.1.0 h.1.1.0 w.right.all);
      same = same-sum a (neg_ℤ b) (neg_ℤ c) (neg_ℤ d) p q r s (total-zero _ even);
    }
  where
    few : (b c d : ℤ) → pos 0 ≤ℤ b → pos 0 ≤ℤ c → pos 0 ≤ℤ d → b +ℤ (c +ℤ (d +ℤ pos 0)) ≡ pos 65536 → unsigned_abs (neg_ℤ b) * 132096 + unsigned_abs (neg_ℤ c) * 132096 + unsigned_abs (neg_ℤ d) * 132096 < 2 ^ 34
    few b c d hb hc hd e = omega (arith, ints)

narrow_ee : (a b c d : ℤ) (p q r s : V3) → AreClose (p ∷ q ∷ []) (r ∷ s ∷ []) → AreOfTwoParts 2 (a ∷ b ∷ c ∷ d ∷ []) → AreNarrow (signed_weights 2 (a ∷ b ∷ c ∷ d ∷ [])) (p ∷ q ∷ r ∷ s ∷ [])
narrow_ee a b c d p q r s close w =
    let xs = p ∷ q ∷ [] in
    let ys = r ∷ s ∷ [] in
    let h = recursion_from_All IsNonneg (a ∷ b ∷ []) w.left.each in
    let k = recursion_from_All IsNonneg (c ∷ d ∷ []) w.right.each in
    let even = balanced 2 (a ∷ b ∷ c ∷ d ∷ []) w in record {
      each = each_at_most _ even;
      ways = by_place p q r s (edge xs close.left 1 0 origin origin (omega arith) (omega arith)) (away xs ys close 0 0 origin origin (omega arith) (omega arith)) (away xs ys close 0 1 origin origin (omega arith) (omega arith));
      sum = narrow b (neg_ℤ c) (neg_ℤ d) _ _ _ EDGE_LIMIT APART_LIMIT APART_LIMIT
          (close.left 1 origin (omega arith) 0 origin (omega arith)) (away_within xs ys close 0 0 origin origin (omega arith) (omega arith)) (away_within xs ys close 0 1 origin origin (omega arith) (omega arith))
          (few a b c d h.0 h.1.0 k.0 k.1.0 w.left.all w.right.all);
      same = same-sum a b (neg_ℤ c) (neg_ℤ d) p q r s (total-zero _ even);
    }
  where
    few : (a b c d : ℤ) → pos 0 ≤ℤ a → pos 0 ≤ℤ b → pos 0 ≤ℤ c → pos 0 ≤ℤ d → a +ℤ (b +ℤ pos 0) ≡ pos 65536 → c +ℤ (d +ℤ pos 0) ≡ pos 65536 → unsigned_abs b * 65536 + unsigned_abs (neg_ℤ c) * 132096 + unsigned_abs (neg_ℤ d) * 132096 < 2 ^ 34
    few a b c d ha hb hc hd e f = omega (arith, ints)

-- parts that are close, and their weights
record IsWeighted (split : ℕ) (points : List V3) (ws : List ℤ) : Type 0 where
  pub close : AreClose (take split points) (drop split points)
  pub weights : AreOfTwoParts split ws

pub are_narrow : (split : ℕ) (points : List V3) (near : Near) → length points ≡ 4 → length near.weights ≡ 4 → IsOn split points near → AreNarrow (signed_weights split near.weights) points
are_narrow split points near e f on = by_split (four_of points e) (four_of near.weights f) on.parts
  where
    moved : {xs : List V3} {ws : List ℤ} {k : ℕ} → points ≡ xs → near.weights ≡ ws → split ≡ k → IsWeighted k xs ws
    moved {xs} {ws} {k} at w e =
        subst (λ n. IsWeighted n xs ws) e (subst (λ zs. IsWeighted split zs ws) at (subst (IsWeighted split points) w (record { close = on.close; weights = on.weights })))

    by_split : (p : V3) × (q : V3) × (r : V3) × (s : V3) × (points ≡ p ∷ q ∷ r ∷ s ∷ []) → (a : ℤ) × (b : ℤ) × (c : ℤ) × (d : ℤ) × (near.weights ≡ a ∷ b ∷ c ∷ d ∷ []) → IsSplit split → AreNarrow (signed_weights split near.weights) points
    by_split (p, q, r, s, at) (a, b, c, d, w) (inl one) =
        let h : IsWeighted 1 (p ∷ q ∷ r ∷ s ∷ []) (a ∷ b ∷ c ∷ d ∷ []) = moved at w one in
        rw (at, w, one) (narrow_vt a b c d p q r s h.close h.weights)
    by_split (p, q, r, s, at) (a, b, c, d, w) (inr two) =
        let h : IsWeighted 2 (p ∷ q ∷ r ∷ s ∷ []) (a ∷ b ∷ c ∷ d ∷ []) = moved at w two in
        rw (at, w, two) (narrow_ee a b c d p q r s h.close h.weights)
