-- How great a motion is, and what is left of it across the normal.
use Rattle.std.proofs.Common.{◌≡◌, ℕ, ◌+◌, ◌*◌, ◌≤◌, ◌<◌, ◌^◌, ℤ, pos, ◌+ℤ◌, ◌-ℤ◌, ◌*ℤ◌, neg_ℤ, ◌≤ℤ◌, ◌<ℤ◌, List, [], ◌∷◌, map, length, get_or, unsigned_abs, sym, subst, arith}
use Rattle.std.proofs.lemmas.Int.{ints, clamps}
use Rattle.std.specs.Prelude.{All, zip}
use Rattle.std.specs.Int.{int_min, int_max}
use Rattle.num_q.specs.Rounding.{floor_of}
use Rattle.list_laws.proofs.Fours.{four_of}
use Rattle.whole_laws.proofs.Floors.{floor_least, floor_below}
use Rattle.whole_laws.proofs.Order.{size_prod}
use Rattle.space3.specs.declared.vectors.V3.{V3}
use Rattle.space3.specs.Vectors.{Within, sum_of, difference, multiple, dot_product}
use Rattle.space3.specs.Box.{IsInTheBox}
use Rattle.space3.specs.Mesh.{place_of}
use Rattle.space3.proofs.Combinations.{same_vector}
use Rattle.vec_q.specs.Widths.{IsBelow}
use Rattle.nearest.specs.declared.limits.TheConstants.{ONE}
use Rattle.nearest.specs.SignedWeights.{signed_sum, AreBalanced}
use Rattle.friction_lag.specs.Friction.{across}

-- two places in the box
pub apart_within : (a b : V3) → IsInTheBox a → IsInTheBox b → Within 2097152 (difference a b)
apart_within a b h k = record { x = record { bound = each a.x b.x h.x.bound k.x.bound }; y = record { bound = each a.y b.y h.y.bound k.y.bound }; z = record { bound = each a.z b.z h.z.bound k.z.bound } }
  where
    each : (a b : ℤ) → unsigned_abs a ≤ 1048576 → unsigned_abs b ≤ 1048576 → unsigned_abs (a -ℤ b) ≤ 2097152
    each a b h k = omega (arith, ints)

pub apart_below : (a : V3) → Within 2097152 a → IsBelow 22 a
apart_below a h = record { x = each a.x h.x.bound; y = each a.y h.y.bound; z = each a.z h.z.bound }
  where
    each : (a : ℤ) → unsigned_abs a ≤ 2097152 → unsigned_abs a < 2 ^ 22
    each a h = omega arith

-- the sizes of balanced weights add up to 2
sizes : (a b c d : ℤ) → AreBalanced (a ∷ b ∷ c ∷ d ∷ []) → unsigned_abs a + unsigned_abs b + unsigned_abs c + unsigned_abs d ≤ 131072
sizes a b c d h = by_totals (unsigned_abs a) (unsigned_abs b) (unsigned_abs c) (unsigned_abs d) (int_max (pos 0) a) (int_max (pos 0) b) (int_max (pos 0) c) (int_max (pos 0) d) (int_min (pos 0) a) (int_min (pos 0) b) (int_min (pos 0) c) (int_min (pos 0) d) (size a) (size b) (size c) (size d) h.above h.below
  where
    size : (a : ℤ) → pos (unsigned_abs a) ≡ int_max (pos 0) a -ℤ int_min (pos 0) a
    size a = omega (arith, ints, clamps)

    by_totals : (k l m n : ℕ) (a b c d e f g h : ℤ) → pos k ≡ a -ℤ e → pos l ≡ b -ℤ f → pos m ≡ c -ℤ g → pos n ≡ d -ℤ h →
        a +ℤ (b +ℤ (c +ℤ (d +ℤ pos 0))) ≡ pos 65536 → e +ℤ (f +ℤ (g +ℤ (h +ℤ pos 0))) ≡ neg_ℤ (pos 65536) → k + l + m + n ≤ 131072
    by_totals k l m n a b c d e f g h i j o p q r = omega (arith, ints)

product_size : (a m : ℤ) → unsigned_abs m ≤ 2097152 → unsigned_abs (a *ℤ m) ≤ unsigned_abs a * 2097152
product_size a m h = size_prod a m (unsigned_abs a) 2097152 (omega arith) h

sum_size : (a b c d p q r s : ℤ) → unsigned_abs a + unsigned_abs b + unsigned_abs c + unsigned_abs d ≤ 131072 → unsigned_abs p ≤ 2097152 → unsigned_abs q ≤ 2097152 → unsigned_abs r ≤ 2097152 → unsigned_abs s ≤ 2097152 →
    unsigned_abs (a *ℤ p +ℤ (b *ℤ q +ℤ (c *ℤ r +ℤ d *ℤ s))) ≤ 2 ^ 38
sum_size a b c d p q r s h hp hq hr hs = total (a *ℤ p) (b *ℤ q) (c *ℤ r) (d *ℤ s) _ _ _ _ (product_size a p hp) (product_size b q hq) (product_size c r hr) (product_size d s hs) h
  where
    total : (t u w x : ℤ) (a b c d : ℕ) → unsigned_abs t ≤ a * 2097152 → unsigned_abs u ≤ b * 2097152 → unsigned_abs w ≤ c * 2097152 → unsigned_abs x ≤ d * 2097152 → a + b + c + d ≤ 131072 → unsigned_abs (t +ℤ (u +ℤ (w +ℤ x))) ≤ 2 ^ 38
    total t u w x a b c d f g h i k = omega (arith, ints)

abbrev pub moved : List ℤ → List V3 → List V3 → ℕ → V3
moved signed places from k = multiple (get_or signed k (pos 0)) (difference (place_of places k) (place_of from k))

-- the sum of four
abbrev pub sum_of_four : List ℤ → List V3 → List V3 → V3
sum_of_four signed places from = sum_of (moved signed places from 0) (sum_of (moved signed places from 1) (sum_of (moved signed places from 2) (moved signed places from 3)))

pub motion_bound : (signed : List ℤ) (places from : List V3) → length signed ≡ 4 → length places ≡ 4 → length from ≡ 4 → AreBalanced signed → All IsInTheBox places → All IsInTheBox from → Within (2 ^ 38) (sum_of_four signed places from)
motion_bound signed places from e f g balanced here there = by_four (four_of signed e)
  where
    near : (k : ℕ) → k < 4 → Within 2097152 (difference (place_of places k) (place_of from k))
    near k h = apart_within (place_of places k) (place_of from k) (here k _ (omega arith)) (there k _ (omega arith))

    by_four : (a : ℤ) × (b : ℤ) × (c : ℤ) × (d : ℤ) × (signed ≡ a ∷ b ∷ c ∷ d ∷ []) → Within (2 ^ 38) (sum_of_four signed places from)
    by_four (a, b, c, d, at) =
        let s = sizes a b c d (subst AreBalanced at balanced) in
        let p = near 0 (omega arith) in
        let q = near 1 (omega arith) in
        let r = near 2 (omega arith) in
        let t = near 3 (omega arith) in
        subst (λ ws. Within (2 ^ 38) (sum_of_four ws places from)) (sym at) (record {
          x = record { bound = sum_size a b c d _ _ _ _ s p.x.bound q.x.bound r.x.bound t.x.bound };
          y = record { bound = sum_size a b c d _ _ _ _ s p.y.bound q.y.bound r.y.bound t.y.bound };
          z = record { bound = sum_size a b c d _ _ _ _ s p.z.bound q.z.bound r.z.bound t.z.bound };
        })

pub sum-of-four-is : (signed : List ℤ) (places from : List V3) → length signed ≡ 4 → length places ≡ 4 → length from ≡ 4 → sum_of_four signed places from ≡ signed_sum signed (map (λ pair. difference pair.0 pair.1) (zip places from))
sum-of-four-is signed places from e f g = by_fours (four_of signed e) (four_of places f) (four_of from g)
  where
    by_fours : (a : ℤ) × (b : ℤ) × (c : ℤ) × (d : ℤ) × (signed ≡ a ∷ b ∷ c ∷ d ∷ []) → (p : V3) × (q : V3) × (r : V3) × (s : V3) × (places ≡ p ∷ q ∷ r ∷ s ∷ []) → (i : V3) × (j : V3) × (k : V3) × (l : V3) × (from ≡ i ∷ j ∷ k ∷ l ∷ []) →
        sum_of_four signed places from ≡ signed_sum signed (map (λ pair. difference pair.0 pair.1) (zip places from))
    by_fours (a, b, c, d, at) (p, q, r, s, here) (i, j, k, l, there) =
        rw (at, here, there) (same_vector _ _
        (one (a *ℤ (p.x -ℤ i.x)) (b *ℤ (q.x -ℤ j.x)) (c *ℤ (r.x -ℤ k.x)) (d *ℤ (s.x -ℤ l.x)))
        (one (a *ℤ (p.y -ℤ i.y)) (b *ℤ (q.y -ℤ j.y)) (c *ℤ (r.y -ℤ k.y)) (d *ℤ (s.y -ℤ l.y)))
        (one (a *ℤ (p.z -ℤ i.z)) (b *ℤ (q.z -ℤ j.z)) (c *ℤ (r.z -ℤ k.z)) (d *ℤ (s.z -ℤ l.z))))
      where
        one : (t u w x : ℤ) → t +ℤ (u +ℤ (w +ℤ x)) ≡ t +ℤ (u +ℤ (w +ℤ (x +ℤ pos 0)))
        one t u w x = omega (arith, ints)

-- ---- across the normal
part_size : (z : ℤ) → unsigned_abs z ≤ 3541774862152233910272 → unsigned_abs (floor_of z (pos (2 ^ 32))) ≤ 824633720832
part_size z h = size _ (floor_least z (pos (2 ^ 32)) (neg_ℤ (pos 824633720832)) (omega (arith, ints)) (low z h)) (floor_below z (pos (2 ^ 32)) (pos 824633720833) (omega (arith, ints)) (high z h))
  where
    low : (z : ℤ) → unsigned_abs z ≤ 3541774862152233910272 → (pos (2 ^ 32) *ℤ neg_ℤ (pos 824633720832)) ≤ℤ z
    low z h = omega (arith, ints)

    high : (z : ℤ) → unsigned_abs z ≤ 3541774862152233910272 → z <ℤ (pos (2 ^ 32) *ℤ pos 824633720833)
    high z h = omega (arith, ints)

    size : (q : ℤ) → neg_ℤ (pos 824633720832) ≤ℤ q → q <ℤ pos 824633720833 → unsigned_abs q ≤ 824633720832
    size q h k = omega (arith, ints)

along_size : (m n : V3) → Within (2 ^ 38) m → Within 65536 n → unsigned_abs (dot_product m n) ≤ 54043195528445952
along_size m n h k = total (m.x *ℤ n.x) (m.y *ℤ n.y) (m.z *ℤ n.z) (size_prod m.x n.x (2 ^ 38) 65536 h.x.bound k.x.bound) (size_prod m.y n.y (2 ^ 38) 65536 h.y.bound k.y.bound) (size_prod m.z n.z (2 ^ 38) 65536 h.z.bound k.z.bound)
  where
    total : (t u w : ℤ) → unsigned_abs t ≤ 2 ^ 38 * 65536 → unsigned_abs u ≤ 2 ^ 38 * 65536 → unsigned_abs w ≤ 2 ^ 38 * 65536 → unsigned_abs (t +ℤ u +ℤ w) ≤ 54043195528445952
    total t u w f g h = omega (arith, ints)

rest_size : (m n along : ℤ) → unsigned_abs m ≤ 2 ^ 38 → unsigned_abs n ≤ 65536 → unsigned_abs along ≤ 54043195528445952 → unsigned_abs (m -ℤ floor_of (along *ℤ n) (pos (2 ^ 32))) < 2 ^ 41
rest_size m n along h k l = less m (floor_of (along *ℤ n) (pos (2 ^ 32))) h (part_size (along *ℤ n) (weaker (along *ℤ n) (size_prod along n 54043195528445952 65536 l k)))
  where
    weaker : (z : ℤ) → unsigned_abs z ≤ 54043195528445952 * 65536 → unsigned_abs z ≤ 3541774862152233910272
    weaker z h = omega arith

    less : (m q : ℤ) → unsigned_abs m ≤ 2 ^ 38 → unsigned_abs q ≤ 824633720832 → unsigned_abs (m -ℤ q) < 2 ^ 41
    less m q h k = omega (arith, ints)

pub across_below : (n m : V3) → Within ONE n → Within (2 ^ 38) m → IsBelow 41 (across n m)
across_below n m k h =
    let a = along_size m n h k in record {
      x = rest_size m.x n.x (dot_product m n) h.x.bound k.x.bound a;
      y = rest_size m.y n.y (dot_product m n) h.y.bound k.y.bound a;
      z = rest_size m.z n.z (dot_product m n) h.z.bound k.z.bound a;
    }
