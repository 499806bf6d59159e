-- A plane excludes balancing weights: its product with a weighted sum is at least the sum of the weights.
use Rattle.std.proofs.Common.{◌≡◌, ℕ, zero, suc, ◌+◌, ◌<◌, ℤ, pos, negsuc, ◌+ℤ◌, ◌*ℤ◌, ◌≤ℤ◌, ◌<ℤ◌, List, [], ◌∷◌, length, refl, ◌∙◌, ap, subst, arith}
use Rattle.std.proofs.lemmas.Int.{ints}
use Rattle.std.specs.List.{sum}
use Rattle.std.proofs.lemmas.List.Sums.{sum_by-cons}
use Rattle.std.proofs.lemmas.List.Elements.{All-head, All-tail}
use Rattle.space3.specs.declared.vectors.V3.{V3}
use Rattle.space3.specs.Vectors.{origin, sum_of, multiple, dot_product}
use Rattle.space3.specs.Weights.{weighted_sum}
use Rattle.whole_laws.proofs.Ring.{ring, v, num, ◌⊕◌, ◌⊗◌}
use Rattle.plane_cut.specs.Planes.{IsPlane, HasPlane, HasWeights}

pub dot-weighted : (n r t : V3) (w : ℕ) → dot_product n (sum_of (multiple (pos w) r) t) ≡ pos w *ℤ dot_product n r +ℤ dot_product n t
dot-weighted n r t w =
    ring (n.x ∷ n.y ∷ n.z ∷ r.x ∷ r.y ∷ r.z ∷ t.x ∷ t.y ∷ t.z ∷ pos w ∷ [])
    (v 0 ⊗ (v 9 ⊗ v 3 ⊕ v 6) ⊕ v 1 ⊗ (v 9 ⊗ v 4 ⊕ v 7) ⊕ v 2 ⊗ (v 9 ⊗ v 5 ⊕ v 8))
    (v 9 ⊗ (v 0 ⊗ v 3 ⊕ v 1 ⊗ v 4 ⊕ v 2 ⊗ v 5) ⊕ (v 0 ⊗ v 6 ⊕ v 1 ⊗ v 7 ⊕ v 2 ⊗ v 8)) tt

pub dot-origin : (n : V3) → dot_product n origin ≡ pos 0
dot-origin n = ring (n.x ∷ n.y ∷ n.z ∷ []) (v 0 ⊗ num (pos 0) ⊕ v 1 ⊗ num (pos 0) ⊕ v 2 ⊗ num (pos 0)) (num (pos 0)) tt

pub times_at_least : (w : ℕ) (z : ℤ) → pos 0 <ℤ z → pos w ≤ℤ (pos w *ℤ z)
times_at_least w (pos zero) k = absurd (omega (arith, ints))
times_at_least w (pos (suc z)) k = omega (arith, ints)
times_at_least w (negsuc z) k = absurd (omega (arith, ints))

pub add_le : (a b : ℕ) (x y : ℤ) → pos a ≤ℤ x → pos b ≤ℤ y → pos (a + b) ≤ℤ (x +ℤ y)
add_le a b x y h k = omega (arith, ints)

at_least : (n : V3) (ws : List ℕ) (rows : List V3) → length ws ≡ length rows → IsPlane n rows → pos (sum ws) ≤ℤ dot_product n (weighted_sum ws rows)
at_least n [] rows e h = rw (dot-origin n) (least refl)
  where
    least : pos 0 ≡ pos 0 → pos 0 ≤ℤ pos 0
    least e = omega (arith, ints)
at_least n (w ∷ ws) [] e h = absurd (omega arith)
at_least n (w ∷ ws) (r ∷ rows) e h =
    let P : V3 → Type 0 = λ s. pos 0 <ℤ dot_product n s in
    rw (sum_by-cons (λ (x : ℕ). x) w ws, dot-weighted n r (weighted_sum ws rows) w)
    (add_le w (sum ws) (pos w *ℤ dot_product n r) (dot_product n (weighted_sum ws rows)) (times_at_least w (dot_product n r) (All-head P r rows h)) (at_least n ws rows (omega arith) (All-tail P r rows h)))

pub excludes : (rows : List V3) → HasPlane rows → HasWeights rows → ⊥
excludes rows p w =
    let k = at_least p.0 w.0 rows w.1.each p.1 in
    let l : pos (sum w.0) ≤ℤ pos 0 = subst (λ (z : ℤ). pos (sum w.0) ≤ℤ z) (ap (dot_product p.0) w.1.balanced ∙ dot-origin p.0) k in
    clash (sum w.0) w.1.some l
  where
    clash : (t : ℕ) → 0 < t → pos t ≤ℤ pos 0 → ⊥
    clash t h k = omega (arith, ints)
