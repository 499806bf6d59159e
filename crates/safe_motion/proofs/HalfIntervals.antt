-- The halves of an interval inherit a separating vector and positive Bernstein coefficients.
use Rattle.std.proofs.Common.{◌≡◌, ℕ, ◌+◌, ◌*◌, ◌<◌, ℤ, pos, ◌+ℤ◌, ◌-ℤ◌, ◌*ℤ◌, List, [], ◌∷◌, sym, subst, arith}
use Rattle.space3.specs.Vectors.{vector, sum_of, difference, multiple}
use Rattle.whole_laws.proofs.Ring.{ring, v, num, ◌⊕◌, ◌⊖◌, ◌⊗◌}
use Rattle.safe_motion.specs.declared.motion.Move.{Move}
use Rattle.safe_motion.specs.Moments.{IsInside, place_at, places_at}
use Rattle.safe_motion.specs.Meeting.{Separates}
use Rattle.safe_motion.specs.declared.motion.Corners.{Corners}
use Rattle.safe_motion.specs.declared.motion.Edges.{Edges}
use Rattle.safe_motion.specs.Certificates.{IsServed, edges_at, ArePositive, StaysPositive}
use Rattle.safe_motion.proofs.Inside.{blend}
use Rattle.safe_motion.proofs.Separation.{separates_inside}
use Rattle.safe_motion.proofs.Volumes.{scaled_edges, sum_of_edges, first_half, second_half}
use Rattle.safe_motion.proofs.Halving.{IsInherited}

start_inside : (j n : ℕ) → 0 < n → IsInside (2 * j) (2 * n) j n
start_inside j n h = record { divisor = omega arith; low = omega arith; high = omega arith }

middle_inside : (j n : ℕ) → 0 < n → IsInside (2 * j + 1) (2 * n) j n
middle_inside j n h = record { divisor = omega arith; low = omega arith; high = omega arith }

end_inside : (j n : ℕ) → 0 < n → IsInside (2 * j + 1 + 1) (2 * n) j n
end_inside j n h = record { divisor = omega arith; low = omega arith; high = omega arith }

pub served_inherited : (xs ys : List Move) → IsInherited (IsServed xs ys)
served_inherited xs ys j n some s =
    let at_moment : (p : ℕ) → IsInside p (2 * n) j n → Separates s.normal (places_at p (2 * n) xs) (places_at p (2 * n) ys) =
    λ p h. separates_inside s.normal xs ys p (2 * n) j n h s.serves in
    let start = at_moment (2 * j) (start_inside j n some) in
    let middle = at_moment (2 * j + 1) (middle_inside j n some) in
    let end = at_moment (2 * j + 1 + 1) (end_inside j n some) in
    (record { normal = s.normal; serves = record { before = start; after = middle } }, record { normal = s.normal; serves = record { before = middle; after = end } })

edge-double : (a b : Move) (j n : ℕ) → difference (place_at (2 * j) (2 * n) a) (place_at (2 * j) (2 * n) b) ≡ multiple (pos 2) (difference (place_at j n a) (place_at j n b))
edge-double a b j n = λ i. vector (each a.start.x b.start.x a.end.x b.end.x i) (each a.start.y b.start.y a.end.y b.end.y i) (each a.start.z b.start.z a.end.z b.end.z i)
  where
    each : (a b c d : ℤ) → blend (2 * j) (2 * n) a c -ℤ blend (2 * j) (2 * n) b d ≡ pos 2 *ℤ (blend j n a c -ℤ blend j n b d)
    each a b c d =
        ring (pos j ∷ pos n ∷ a ∷ b ∷ c ∷ d ∷ [])
        (((num (pos 2) ⊗ v 1 ⊖ num (pos 2) ⊗ v 0) ⊗ v 2 ⊕ num (pos 2) ⊗ v 0 ⊗ v 4) ⊖ ((num (pos 2) ⊗ v 1 ⊖ num (pos 2) ⊗ v 0) ⊗ v 3 ⊕ num (pos 2) ⊗ v 0 ⊗ v 5))
        (num (pos 2) ⊗ (((v 1 ⊖ v 0) ⊗ v 2 ⊕ v 0 ⊗ v 4) ⊖ ((v 1 ⊖ v 0) ⊗ v 3 ⊕ v 0 ⊗ v 5))) tt

edge-middle : (a b : Move) (j n : ℕ) → difference (place_at (2 * j + 1) (2 * n) a) (place_at (2 * j + 1) (2 * n) b)
    ≡ sum_of (difference (place_at j n a) (place_at j n b)) (difference (place_at (j + 1) n a) (place_at (j + 1) n b))
edge-middle a b j n = λ i. vector (each a.start.x b.start.x a.end.x b.end.x i) (each a.start.y b.start.y a.end.y b.end.y i) (each a.start.z b.start.z a.end.z b.end.z i)
  where
    each : (a b c d : ℤ) → blend (2 * j + 1) (2 * n) a c -ℤ blend (2 * j + 1) (2 * n) b d ≡ (blend j n a c -ℤ blend j n b d) +ℤ (blend (j + 1) n a c -ℤ blend (j + 1) n b d)
    each a b c d =
        let q = num (pos 2) ⊗ v 1 in
        let p = num (pos 2) ⊗ v 0 ⊕ num (pos 1) in
        let next = v 0 ⊕ num (pos 1) in
        ring (pos j ∷ pos n ∷ a ∷ b ∷ c ∷ d ∷ [])
        (((q ⊖ p) ⊗ v 2 ⊕ p ⊗ v 4) ⊖ ((q ⊖ p) ⊗ v 3 ⊕ p ⊗ v 5))
        ((((v 1 ⊖ v 0) ⊗ v 2 ⊕ v 0 ⊗ v 4) ⊖ ((v 1 ⊖ v 0) ⊗ v 3 ⊕ v 0 ⊗ v 5)) ⊕ (((v 1 ⊖ next) ⊗ v 2 ⊕ next ⊗ v 4) ⊖ ((v 1 ⊖ next) ⊗ v 3 ⊕ next ⊗ v 5))) tt

pub edges-double : (t : Corners) (j n : ℕ) → edges_at (2 * j) (2 * n) t ≡ scaled_edges (pos 2) (edges_at j n t)
edges-double t j n = λ i. record { u = edge-double t.second t.first j n i; v = edge-double t.third t.first j n i; w = edge-double t.fourth t.first j n i }

pub edges-middle : (t : Corners) (j n : ℕ) → edges_at (2 * j + 1) (2 * n) t ≡ sum_of_edges (edges_at j n t) (edges_at (j + 1) n t)
edges-middle t j n = λ i. record { u = edge-middle t.second t.first j n i; v = edge-middle t.third t.first j n i; w = edge-middle t.fourth t.first j n i }

pub edges-end : (t : Corners) (j n : ℕ) → edges_at (2 * j + 1 + 1) (2 * n) t ≡ scaled_edges (pos 2) (edges_at (j + 1) n t)
edges-end t j n = subst (λ (k : ℕ). edges_at k (2 * n) t ≡ scaled_edges (pos 2) (edges_at (j + 1) n t)) (next j) (edges-double t (j + 1) n)
  where
    next : (j : ℕ) → 2 * (j + 1) ≡ 2 * j + 1 + 1
    next j = omega arith

pub positive_inherited : (t : Corners) → IsInherited (StaysPositive t)
positive_inherited t j n some h =
    (along (edges-double t j n) (edges-middle t j n) (first_half _ _ h), along (edges-middle t j n) (edges-end t j n) (second_half _ _ h))
  where
    along : {a b c d : Edges} → a ≡ c → b ≡ d → ArePositive c d → ArePositive a b
    along {a} {b} {c} {d} e f h = subst (λ (x : Edges). ArePositive x b) (sym e) (subst (λ (x : Edges). ArePositive c x) (sym f) h)
