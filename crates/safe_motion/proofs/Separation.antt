-- A vector that separates two parts at some moments, and at others.
use Rattle.std.proofs.Common.{◌≡◌, ℕ, ◌+◌, ◌<◌, ℤ, pos, ◌+ℤ◌, ◌-ℤ◌, ◌*ℤ◌, neg_ℤ, ◌≤ℤ◌, ◌<ℤ◌, List, [], ◌∷◌, length, get_or, sym, subst, arith}
use Rattle.std.specs.Prelude.{All, sum}
use Rattle.std.proofs.lemmas.Int.{ints}
use Rattle.std.proofs.lemmas.List.Sums.{sum_by-cons}
use Rattle.std.proofs.lemmas.List.Elements.{All-head, All-tail, All-weaker}
use Rattle.space3.specs.declared.vectors.V3.{V3}
use Rattle.space3.specs.Vectors.{dot_product, difference, multiple, sum_of}
use Rattle.whole_laws.proofs.Ring.{ring, v, num, neg, ◌⊕◌, ◌⊖◌, ◌⊗◌}
use Rattle.whole_laws.proofs.Order.{mul_nonneg_ℤ}
use Rattle.list_laws.proofs.PairsOfElements.{Each-map, Each-map_back, Each-both}
use Rattle.safe_motion.specs.declared.motion.Move.{Move}
use Rattle.safe_motion.specs.Moments.{IsInside, place_at, places_at}
use Rattle.space3.specs.Weights.{weighted_sum}
use Rattle.safe_motion.specs.Meeting.{AreMeetingWeights, Separates}
use Rattle.safe_motion.specs.Certificates.{Serves}
use Rattle.space3.proofs.VectorForms.{components, at, ◌⊕₃◌, ◌⊖₃◌, ◌⊗₃◌, dot}
use Rattle.safe_motion.proofs.Inside.{dot-place, blend_inside}

-- two moving points are apart along n at p / q
abbrev ApartAt : V3 → ℕ → ℕ → Move → Move → Type 0
ApartAt n p q a b = pos 0 <ℤ dot_product n (difference (place_at p q a) (place_at p q b))

apart_inside : (n : V3) (p q j m : ℕ) (a b : Move) → IsInside p q j m → ApartAt n j m a b → ApartAt n (j + 1) m a b → ApartAt n p q a b
apart_inside n p q j m a b h before after =
    rw (dot-place n a b p q) (blend_inside p q j m _ _ h (rw (dot-place n a b j m) at before) (rw (dot-place n a b (j + 1) m) at after))

pub separates_inside : (n : V3) (xs ys : List Move) (p q j m : ℕ) → IsInside p q j m → Serves n xs ys j m → Separates n (places_at p q xs) (places_at p q ys)
separates_inside n xs ys p q j m h serves =
    Each-map (λ a b. pos 0 <ℤ dot_product n (difference a b)) (place_at p q) xs ys
    (Each-both (ApartAt n j m) (ApartAt n (j + 1) m) (ApartAt n p q) xs ys (λ a b. apart_inside n p q j m a b h)
    (Each-map_back (λ a b. pos 0 <ℤ dot_product n (difference a b)) (place_at j m) xs ys serves.before)
    (Each-map_back (λ a b. pos 0 <ℤ dot_product n (difference a b)) (place_at (j + 1) m) xs ys serves.after))

-- Points that are all past a threshold along n: so is their weighted sum, by at least the sum of the weights.
weighted_past : (n : V3) (k : ℤ) (ws : List ℕ) (xs : List V3) → length ws ≡ length xs → All (λ x. pos 0 <ℤ (dot_product n x +ℤ k)) xs →
    pos (sum ws) ≤ℤ (dot_product n (weighted_sum ws xs) +ℤ pos (sum ws) *ℤ k)
weighted_past n k [] xs e h = rw (ring (k ∷ components (n ∷ [])) (v 1 ⊗ num (pos 0) ⊕ v 2 ⊗ num (pos 0) ⊕ v 3 ⊗ num (pos 0) ⊕ num (pos 0) ⊗ v 0) (num (pos 0)) tt) (omega (arith, ints))
weighted_past n k (w ∷ ws) [] e h = absurd (omega arith)
weighted_past n k (w ∷ ws) (x ∷ xs) e h =
    let t = sum ws in
    let rest = weighted_past n k ws xs (omega arith) (All-tail (λ x. pos 0 <ℤ (dot_product n x +ℤ k)) x xs h) in
    let here = All-head (λ x. pos 0 <ℤ (dot_product n x +ℤ k)) x xs h in
    let W = weighted_sum ws xs in
    let split : dot_product n (sum_of (multiple (pos w) x) W) +ℤ (pos w +ℤ pos t) *ℤ k
    ≡ (pos w +ℤ pos w *ℤ (dot_product n x +ℤ k -ℤ pos 1)) +ℤ (dot_product n W +ℤ pos t *ℤ k) =
    ring (pos w ∷ pos t ∷ k ∷ components (n ∷ x ∷ W ∷ []))
    (dot (at 3) (v 0 ⊗₃ at 6 ⊕₃ at 9) ⊕ (v 0 ⊕ v 1) ⊗ v 2)
    ((v 0 ⊕ v 0 ⊗ (dot (at 3) (at 6) ⊕ v 2 ⊖ num (pos 1))) ⊕ (dot (at 3) (at 9) ⊕ v 1 ⊗ v 2)) tt in
    subst (λ (s : ℕ). pos s ≤ℤ (dot_product n (sum_of (multiple (pos w) x) W) +ℤ pos s *ℤ k)) (sym (sum_by-cons (λ (y : ℕ). y) w ws))
    (rw split (join w t _ _ (mul_nonneg_ℤ (pos w) _ (natural w) (less _ here)) rest))
  where
    natural : (w : ℕ) → pos 0 ≤ℤ pos w
    natural w = omega (arith, ints)

    less : (a : ℤ) → pos 0 <ℤ a → pos 0 ≤ℤ (a -ℤ pos 1)
    less a h = omega (arith, ints)

    join : (w t : ℕ) (a b : ℤ) → pos 0 ≤ℤ a → pos t ≤ℤ b → pos (w + t) ≤ℤ ((pos w +ℤ a) +ℤ b)
    join w t a b h k = omega (arith, ints)

-- lists that meet have no separating vector
pub meeting_excludes_separation : (n : V3) (left right : List ℕ) (xs ys : List V3) → AreMeetingWeights left right xs ys → Separates n xs ys → ⊥
meeting_excludes_separation n left right xs ys m h =
    let A = weighted_sum left xs in
    let past = weighted_past (multiple (neg_ℤ (pos (sum left))) n) (dot_product n A) right ys m.each_right
    (λ l e at_l. beyond (get_or ys l e) (λ k d at_k. h k d at_k l e at_l)) in
    let W = sum left in
    let same : pos W ≤ℤ (dot_product (multiple (neg_ℤ (pos W)) n) A +ℤ pos W *ℤ dot_product n A) =
    subst (λ (U : ℕ). pos U ≤ℤ (dot_product (multiple (neg_ℤ (pos W)) n) A +ℤ pos U *ℤ dot_product n A)) (sym m.balanced)
    (subst (λ (B : V3). pos (sum right) ≤ℤ (dot_product (multiple (neg_ℤ (pos W)) n) B +ℤ pos (sum right) *ℤ dot_product n A)) (sym m.common) past) in
    let none : dot_product (multiple (neg_ℤ (pos W)) n) A +ℤ pos W *ℤ dot_product n A ≡ pos 0 =
    ring (pos W ∷ components (n ∷ A ∷ [])) (dot (neg (v 0) ⊗₃ at 1) (at 4) ⊕ v 0 ⊗ dot (at 1) (at 4)) (num (pos 0)) tt in
    absurd (nothing W m.some (rw none at same))
  where
    nothing : (w : ℕ) → 0 < w → pos w ≤ℤ pos 0 → ⊥
    nothing w h k = absurd (omega (arith, ints))

    above : (w : ℕ) (z : ℤ) → 0 < w → pos w ≤ℤ z → pos 0 <ℤ z
    above w z h k = omega (arith, ints)

    beyond : (b : V3) → All (λ a. pos 0 <ℤ dot_product n (difference a b)) xs → pos 0 <ℤ (dot_product (multiple (neg_ℤ (pos (sum left))) n) b +ℤ dot_product n (weighted_sum left xs))
    beyond b each =
        let apart : (a : V3) → dot_product n (difference a b) ≡ dot_product n a +ℤ neg_ℤ (dot_product n b) =
        λ a. ring (components (n ∷ a ∷ b ∷ [])) (dot (at 0) (at 3 ⊖₃ at 6)) (dot (at 0) (at 3) ⊕ neg (dot (at 0) (at 6))) tt in
        let low = weighted_past n (neg_ℤ (dot_product n b)) left xs m.each_left
        (All-weaker (λ a. pos 0 <ℤ dot_product n (difference a b)) (λ a. pos 0 <ℤ (dot_product n a +ℤ neg_ℤ (dot_product n b))) (λ a p. subst (λ z. pos 0 <ℤ z) (apart a) p) xs each) in
        let turned : dot_product (multiple (neg_ℤ (pos (sum left))) n) b +ℤ dot_product n (weighted_sum left xs) ≡ dot_product n (weighted_sum left xs) +ℤ pos (sum left) *ℤ neg_ℤ (dot_product n b) =
        ring (pos (sum left) ∷ components (n ∷ b ∷ weighted_sum left xs ∷ [])) (dot (neg (v 0) ⊗₃ at 1) (at 4) ⊕ dot (at 1) (at 7)) (dot (at 1) (at 7) ⊕ v 0 ⊗ neg (dot (at 1) (at 4))) tt in
        rw turned (above (sum left) _ m.some low)
