-- The determinant of a tetrahedron's edges between two moments.
use Rattle.std.proofs.Common.{◌≡◌, ℕ, zero, suc, ◌+◌, ◌*◌, ◌<◌, ℤ, pos, negsuc, ◌+ℤ◌, ◌-ℤ◌, ◌*ℤ◌, ◌≤ℤ◌, ◌<ℤ◌, List, [], ◌∷◌, sym, ◌∙◌, subst, arith}
use Rattle.std.proofs.lemmas.Int.{ints}
use Rattle.space3.specs.Vectors.{vector, sum_of, difference, multiple, determinant}
use Rattle.whole_laws.proofs.Ring.{ring, Expr, v, num, ◌⊕◌, ◌⊖◌, ◌⊗◌}
use Rattle.whole_laws.proofs.Blends.{cubic_pos, pos_of_times_nat}
use Rattle.safe_motion.specs.declared.motion.Move.{Move}
use Rattle.safe_motion.specs.Moments.{IsInside, place_at}
use Rattle.safe_motion.specs.declared.motion.Corners.{Corners}
use Rattle.safe_motion.specs.declared.motion.Edges.{Edges}
use Rattle.safe_motion.specs.Certificates.{edges_at, volume_at, ArePositive, StaysPositive}
use Rattle.space3.proofs.VectorForms.{components, Triple, at, ◌⊕₃◌, ◌⊗₃◌, det}
use Rattle.safe_motion.proofs.Inside.{shares, early_share, late_share, blend, blend-between}

-- the middle Bernstein coefficients of the edges s and t
abbrev pub second_coefficient : Edges → Edges → ℤ
second_coefficient s t = determinant t.u s.v s.w +ℤ determinant s.u t.v s.w +ℤ determinant s.u s.v t.w

abbrev pub third_coefficient : Edges → Edges → ℤ
third_coefficient s t = determinant t.u t.v s.w +ℤ determinant t.u s.v t.w +ℤ determinant s.u t.v t.w

-- k times the edges s, and l times the edges t, together
abbrev blend_of_edges : ℤ → Edges → ℤ → Edges → Edges
blend_of_edges k s l t = record {
  u = sum_of (multiple k s.u) (multiple l t.u);
  v = sum_of (multiple k s.v) (multiple l t.v);
  w = sum_of (multiple k s.w) (multiple l t.w);
}

abbrev pub volume_of : Edges → ℤ
volume_of e = determinant e.u e.v e.w

-- ---- the same as expressions, where the variables are the components of two triples of edges
abbrev edge_variables : Edges → Edges → List ℤ
edge_variables s t = components (s.u ∷ s.v ∷ s.w ∷ t.u ∷ t.v ∷ t.w ∷ [])

abbrev Three : Type 0
Three = Triple × Triple × Triple

-- the nine variables from the k-th on
abbrev from' : ℕ → Three
from' k = (at k, at (k + 3), at (k + 6))

abbrev blend' : Expr → Three → Expr → Three → Three
blend' k a l b = (k ⊗₃ a.0 ⊕₃ l ⊗₃ b.0, k ⊗₃ a.1 ⊕₃ l ⊗₃ b.1, k ⊗₃ a.2 ⊕₃ l ⊗₃ b.2)

abbrev volume' : Three → Expr
volume' a = det a.0 a.1 a.2

abbrev second' : Three → Three → Expr
second' a b = det b.0 a.1 a.2 ⊕ det a.0 b.1 a.2 ⊕ det a.0 a.1 b.2

abbrev third' : Three → Three → Expr
third' a b = det b.0 b.1 a.2 ⊕ det b.0 a.1 b.2 ⊕ det a.0 b.1 b.2

-- the determinant is a cubic in the two factors with the Bernstein coefficients
bernstein : (k l : ℤ) (s t : Edges) → volume_of (blend_of_edges k s l t)
    ≡ k *ℤ k *ℤ k *ℤ volume_of s +ℤ k *ℤ k *ℤ l *ℤ second_coefficient s t +ℤ k *ℤ l *ℤ l *ℤ third_coefficient s t +ℤ l *ℤ l *ℤ l *ℤ volume_of t
bernstein k l s t =
    let a = from' 2 in
    let b = from' 11 in
    ring (k ∷ l ∷ edge_variables s t)
    (volume' (blend' (v 0) a (v 1) b))
    (v 0 ⊗ v 0 ⊗ v 0 ⊗ volume' a ⊕ v 0 ⊗ v 0 ⊗ v 1 ⊗ second' a b ⊕ v 0 ⊗ v 1 ⊗ v 1 ⊗ third' a b ⊕ v 1 ⊗ v 1 ⊗ v 1 ⊗ volume' b)
    tt

-- n times an edge at p / q is the blend of the edges at the ends of the interval
edge-between : (a b : Move) (p q j n : ℕ) → multiple (pos n) (difference (place_at p q a) (place_at p q b))
    ≡ sum_of (multiple (early_share p q j n) (difference (place_at j n a) (place_at j n b))) (multiple (late_share p q j n) (difference (place_at (j + 1) n a) (place_at (j + 1) n b)))
edge-between a b p q j n = λ i. vector (each a.start.x b.start.x a.end.x b.end.x i) (each a.start.y b.start.y a.end.y b.end.y i) (each a.start.z b.start.z a.end.z b.end.z i)
  where
    each : (a b c d : ℤ) → pos n *ℤ (blend p q a c -ℤ blend p q b d) ≡ early_share p q j n *ℤ (blend j n a c -ℤ blend j n b d) +ℤ late_share p q j n *ℤ (blend (j + 1) n a c -ℤ blend (j + 1) n b d)
    each a b c d =
        (λ i. pos n *ℤ apart p q i) ∙ blend-between p q j n (a -ℤ b) (c -ℤ d) ∙ (λ i. early_share p q j n *ℤ sym (apart j n) i +ℤ late_share p q j n *ℤ sym (apart (j + 1) n) i)
      where
        apart : (p q : ℕ) → blend p q a c -ℤ blend p q b d ≡ blend p q (a -ℤ b) (c -ℤ d)
        apart p q =
            ring ((pos q -ℤ pos p) ∷ pos p ∷ a ∷ b ∷ c ∷ d ∷ [])
            ((v 0 ⊗ v 2 ⊕ v 1 ⊗ v 4) ⊖ (v 0 ⊗ v 3 ⊕ v 1 ⊗ v 5)) (v 0 ⊗ (v 2 ⊖ v 3) ⊕ v 1 ⊗ (v 4 ⊖ v 5)) tt

abbrev pub scaled_edges : ℤ → Edges → Edges
scaled_edges k e = record { u = multiple k e.u; v = multiple k e.v; w = multiple k e.w }

edges-between : (t : Corners) (p q j n : ℕ) → scaled_edges (pos n) (edges_at p q t) ≡ blend_of_edges (early_share p q j n) (edges_at j n t) (late_share p q j n) (edges_at (j + 1) n t)
edges-between t p q j n = λ i. record {
  u = edge-between t.second t.first p q j n i;
  v = edge-between t.third t.first p q j n i;
  w = edge-between t.fourth t.first p q j n i;
}

pub volume-scaled : (k : ℤ) (e : Edges) → volume_of (scaled_edges k e) ≡ k *ℤ (k *ℤ (k *ℤ volume_of e))
volume-scaled k e = ring (k ∷ components (e.u ∷ e.v ∷ e.w ∷ [])) (det (v 0 ⊗₃ at 1) (v 0 ⊗₃ at 4) (v 0 ⊗₃ at 7)) (v 0 ⊗ (v 0 ⊗ (v 0 ⊗ det (at 1) (at 4) (at 7)))) tt

-- positive Bernstein coefficients of an interval make the volume positive at each moment inside
pub volume_inside : (t : Corners) (p q j n : ℕ) → IsInside p q j n → StaysPositive t j n → pos 0 <ℤ volume_at p q t
volume_inside t p q j n h b =
    let cubic = cubic_pos (early_share p q j n) (late_share p q j n) _ _ _ _ (shares p q j n h) b.first b.second b.third b.fourth in
    let at_moment : pos 0 <ℤ volume_of (scaled_edges (pos n) (edges_at p q t)) =
    subst (λ (e : Edges). pos 0 <ℤ volume_of e) (sym (edges-between t p q j n)) (rw (bernstein (early_share p q j n) (late_share p q j n) (edges_at j n t) (edges_at (j + 1) n t)) cubic) in
    pos_of_times_nat n _ (pos_of_times_nat n _ (pos_of_times_nat n _ (rw (volume-scaled (pos n) (edges_at p q t)) at at_moment)))

-- ---- halves
abbrev pub sum_of_edges : Edges → Edges → Edges
sum_of_edges s t = record { u = sum_of s.u t.u; v = sum_of s.v t.v; w = sum_of s.w t.w }

abbrev double' : Three → Three
double' a = (num (pos 2) ⊗₃ a.0, num (pos 2) ⊗₃ a.1, num (pos 2) ⊗₃ a.2)

abbrev s' : Three
s' = from' 0

abbrev t' : Three
t' = from' 9

abbrev middle' : Three
middle' = (s'.0 ⊕₃ t'.0, s'.1 ⊕₃ t'.1, s'.2 ⊕₃ t'.2)

-- k, l, m and n times the Bernstein coefficients
abbrev pub weighted : ℕ → ℕ → ℕ → ℕ → Edges → Edges → ℤ
weighted k l m n s t = pos k *ℤ volume_of s +ℤ pos l *ℤ second_coefficient s t +ℤ pos m *ℤ third_coefficient s t +ℤ pos n *ℤ volume_of t

abbrev weighted' : ℕ → ℕ → ℕ → ℕ → Expr
weighted' k l m n = num (pos k) ⊗ volume' s' ⊕ num (pos l) ⊗ second' s' t' ⊕ num (pos m) ⊗ third' s' t' ⊕ num (pos n) ⊗ volume' t'

weighted_pos : (k l m n : ℕ) (s t : Edges) → ArePositive s t → 0 < k + l + m + n → pos 0 <ℤ weighted k l m n s t
weighted_pos k l m n s t b h = positive k l m n _ _ _ _ b.first b.second b.third b.fourth h
  where
    positive : (k l m n : ℕ) (a b c d : ℤ) → pos 0 <ℤ a → pos 0 <ℤ b → pos 0 <ℤ c → pos 0 <ℤ d → 0 < k + l + m + n → pos 0 <ℤ (pos k *ℤ a +ℤ pos l *ℤ b +ℤ pos m *ℤ c +ℤ pos n *ℤ d)
    positive k l m n a b c d ha hb hc hd h = above k l m n _ _ _ _ (times k a ha) (times l b hb) (times m c hc) (times n d hd) h
      where
        times : (k : ℕ) (a : ℤ) → pos 0 <ℤ a → pos k ≤ℤ (pos k *ℤ a)
        times k (pos zero) h = absurd (omega (arith, ints))
        times k (pos (suc a)) h = at_least k a
          where
            at_least : (k a : ℕ) → pos k ≤ℤ pos (k * suc a)
            at_least k a = omega (arith, ints)
        times k (negsuc a) h = absurd (omega (arith, ints))

        above : (k l m n : ℕ) (a b c d : ℤ) → pos k ≤ℤ a → pos l ≤ℤ b → pos m ≤ℤ c → pos n ≤ℤ d → 0 < k + l + m + n → pos 0 <ℤ (a +ℤ b +ℤ c +ℤ d)
        above k l m n a b c d ha hb hc hd h = omega (arith, ints)

-- the Bernstein coefficients of the first half, where the edges are taken twice, are sums of those of the whole
pub first_half_coefficients : (s t : Edges) → (volume_of (scaled_edges (pos 2) s) ≡ weighted 8 0 0 0 s t)
    × (second_coefficient (scaled_edges (pos 2) s) (sum_of_edges s t) ≡ weighted 12 4 0 0 s t)
    × (third_coefficient (scaled_edges (pos 2) s) (sum_of_edges s t) ≡ weighted 6 4 2 0 s t)
    × (volume_of (sum_of_edges s t) ≡ weighted 1 1 1 1 s t)
first_half_coefficients s t =
    let xs = edge_variables s t in (
      ring xs (volume' (double' s')) (weighted' 8 0 0 0) tt,
      ring xs (second' (double' s') middle') (weighted' 12 4 0 0) tt,
      ring xs (third' (double' s') middle') (weighted' 6 4 2 0) tt,
      ring xs (volume' middle') (weighted' 1 1 1 1) tt,
    )

-- and of the second half
pub second_half_coefficients : (s t : Edges) → (volume_of (sum_of_edges s t) ≡ weighted 1 1 1 1 s t)
    × (second_coefficient (sum_of_edges s t) (scaled_edges (pos 2) t) ≡ weighted 0 2 4 6 s t)
    × (third_coefficient (sum_of_edges s t) (scaled_edges (pos 2) t) ≡ weighted 0 0 4 12 s t)
    × (volume_of (scaled_edges (pos 2) t) ≡ weighted 0 0 0 8 s t)
second_half_coefficients s t =
    let xs = edge_variables s t in (
      ring xs (volume' middle') (weighted' 1 1 1 1) tt,
      ring xs (second' middle' (double' t')) (weighted' 0 2 4 6) tt,
      ring xs (third' middle' (double' t')) (weighted' 0 0 4 12) tt,
      ring xs (volume' (double' t')) (weighted' 0 0 0 8) tt,
    )

pub first_half : (s t : Edges) → ArePositive s t → ArePositive (scaled_edges (pos 2) s) (sum_of_edges s t)
first_half s t b =
    let sums = first_half_coefficients s t in
    record {
      first = rw sums.0 (weighted_pos 8 0 0 0 s t b (omega arith));
      second = rw sums.1 (weighted_pos 12 4 0 0 s t b (omega arith));
      third = rw sums.2 (weighted_pos 6 4 2 0 s t b (omega arith));
      fourth = rw sums.3 (weighted_pos 1 1 1 1 s t b (omega arith));
    }

pub second_half : (s t : Edges) → ArePositive s t → ArePositive (sum_of_edges s t) (scaled_edges (pos 2) t)
second_half s t b =
    let sums = second_half_coefficients s t in
    record {
      first = rw sums.0 (weighted_pos 1 1 1 1 s t b (omega arith));
      second = rw sums.1 (weighted_pos 0 2 4 6 s t b (omega arith));
      third = rw sums.2 (weighted_pos 0 0 4 12 s t b (omega arith));
      fourth = rw sums.3 (weighted_pos 0 0 0 8 s t b (omega arith));
    }
