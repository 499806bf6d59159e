-- Points that stay where they are, at every moment.
use Rattle.std.proofs.Common.{◌≡◌, ℕ, ◌*◌, ◌<◌, ℤ, pos, ◌+ℤ◌, ◌-ℤ◌, ◌*ℤ◌, ◌<ℤ◌, List, [], ◌∷◌, map, ◌↔◌, refl, sym, ◌∙◌, ap, subst, arith, mul-pos}
use Rattle.std.specs.Prelude.{All}
use Rattle.std.proofs.lemmas.Int.{ints}
use Rattle.std.proofs.lemmas.List.{length-map}
use Rattle.std.proofs.lemmas.List.Elements.{All-head, All-tail}
use Rattle.space3.specs.declared.vectors.V3.{V3}
use Rattle.space3.specs.Vectors.{origin, vector, sum_of, difference, multiple}
use Rattle.whole_laws.proofs.Ring.{ring, v, num, ◌⊕◌, ◌⊖◌, ◌⊗◌}
use Rattle.whole_laws.proofs.Order.{mul_pos_ℤ}
use Rattle.whole_laws.proofs.Blends.{same_of_times_nat, pos_of_times_nat}
use Rattle.safe_motion.specs.declared.motion.Move.{Move}
use Rattle.safe_motion.specs.Moments.{place_at, places_at, start_places, IsStill}
use Rattle.space3.specs.Weights.{weighted_sum}
use Rattle.safe_motion.specs.Meeting.{AreMeetingWeights, MeetAt, Meets}
use Rattle.safe_motion.specs.declared.motion.Corners.{Corners}
use Rattle.safe_motion.specs.Certificates.{AreStill, edges_at, volume_at}
use Rattle.safe_motion.proofs.Volumes.{scaled_edges, volume_of, volume-scaled}

-- a point that stays has its place at each moment
place-still : (p q : ℕ) (m : Move) → IsStill m → place_at p q m ≡ multiple (pos q) m.start
place-still p q m still = ap (λ (e : V3). sum_of (multiple (pos q -ℤ pos p) m.start) (multiple (pos p) e)) still ∙ (λ i. vector (each m.start.x i) (each m.start.y i) (each m.start.z i))
  where
    each : (a : ℤ) → (pos q -ℤ pos p) *ℤ a +ℤ pos p *ℤ a ≡ pos q *ℤ a
    each a = ring (pos p ∷ pos q ∷ a ∷ []) ((v 1 ⊖ v 0) ⊗ v 2 ⊕ v 0 ⊗ v 2) (v 1 ⊗ v 2) tt

places-still : (p q : ℕ) (xs : List Move) → All IsStill xs → places_at p q xs ≡ map (multiple (pos q)) (start_places xs)
places-still p q [] h = refl
places-still p q (x ∷ xs) h = λ i. place-still p q x (All-head IsStill x xs h) i ∷ places-still p q xs (All-tail IsStill x xs h) i

multiple-origin : (k : ℤ) → multiple k origin ≡ origin
multiple-origin k = λ i. vector (none i) (none i) (none i)
  where
    none : k *ℤ pos 0 ≡ pos 0
    none = ring (k ∷ []) (v 0 ⊗ num (pos 0)) (num (pos 0)) tt

weighted_sum-scaled : (k : ℤ) (ws : List ℕ) (xs : List V3) → weighted_sum ws (map (multiple k) xs) ≡ multiple k (weighted_sum ws xs)
weighted_sum-scaled k [] xs = sym (multiple-origin k)
weighted_sum-scaled k (w ∷ ws) [] = sym (multiple-origin k)
weighted_sum-scaled k (w ∷ ws) (x ∷ xs) = ap (λ (s : V3). sum_of (multiple (pos w) (multiple k x)) s) (weighted_sum-scaled k ws xs) ∙ (let s = weighted_sum ws xs in λ i. vector (each x.x s.x i) (each x.y s.y i) (each x.z s.z i))
  where
    each : (a b : ℤ) → pos w *ℤ (k *ℤ a) +ℤ k *ℤ b ≡ k *ℤ (pos w *ℤ a +ℤ b)
    each a b = ring (pos w ∷ k ∷ a ∷ b ∷ []) (v 0 ⊗ (v 1 ⊗ v 2) ⊕ v 1 ⊗ v 3) (v 1 ⊗ (v 0 ⊗ v 2 ⊕ v 3)) tt

-- the same weights show a meeting of points that are all scaled alike
pub scaled_weights : (q : ℕ) (left right : List ℕ) (xs ys : List V3) → AreMeetingWeights left right xs ys → AreMeetingWeights left right (map (multiple (pos q)) xs) (map (multiple (pos q)) ys)
scaled_weights q left right xs ys m = record {
  each_left = m.each_left ∙ sym (length-map xs (multiple (pos q)));
  each_right = m.each_right ∙ sym (length-map ys (multiple (pos q)));
  some = m.some;
  balanced = m.balanced;
  common = weighted_sum-scaled (pos q) left xs ∙ ap (multiple (pos q)) m.common ∙ sym (weighted_sum-scaled (pos q) right ys);
}

pub unscaled_weights : (q : ℕ) → 0 < q → (left right : List ℕ) (xs ys : List V3) → AreMeetingWeights left right (map (multiple (pos q)) xs) (map (multiple (pos q)) ys) → AreMeetingWeights left right xs ys
unscaled_weights q some left right xs ys m =
    let same : multiple (pos q) (weighted_sum left xs) ≡ multiple (pos q) (weighted_sum right ys) = sym (weighted_sum-scaled (pos q) left xs) ∙ m.common ∙ weighted_sum-scaled (pos q) right ys in
    record {
      each_left = m.each_left ∙ length-map xs (multiple (pos q));
      each_right = m.each_right ∙ length-map ys (multiple (pos q));
      some = m.some;
      balanced = m.balanced;
      common = λ i. vector
          (same_of_times_nat q _ _ some (ap (λ (a : V3). a.x) same) i)
          (same_of_times_nat q _ _ some (ap (λ (a : V3). a.y) same) i)
          (same_of_times_nat q _ _ some (ap (λ (a : V3). a.z) same) i);
    }

-- meeting of lists that are equal
pub meeting_along : {xs ys zs us : List V3} → xs ≡ zs → ys ≡ us → Meets xs ys → Meets zs us
meeting_along {xs} {ys} {zs} {us} e f m = subst (λ (vs : List V3). Meets zs vs) f (subst (λ (vs : List V3). Meets vs ys) e m)

-- parts that stay meet at a moment where they meet at the start
pub still_meeting : (xs ys : List Move) (p q : ℕ) → All IsStill xs → All IsStill ys → 0 < q → MeetAt p q xs ys ↔ Meets (start_places xs) (start_places ys)
still_meeting xs ys p q stays stays' some =
    let left_is = places-still p q xs stays in
    let right_is = places-still p q ys stays' in (
      λ m. let n = meeting_along left_is right_is m in (n.0, n.1, unscaled_weights q some n.0 n.1 (start_places xs) (start_places ys) n.2),
      λ m. meeting_along (sym left_is) (sym right_is) (m.0, m.1, scaled_weights q m.0 m.1 (start_places xs) (start_places ys) m.2),
    )

edge-still : (p q : ℕ) (a b : Move) → IsStill a → IsStill b → difference (place_at p q a) (place_at p q b) ≡ multiple (pos q) (difference (place_at 0 1 a) (place_at 0 1 b))
edge-still p q a b stays stays' =
    (λ i. difference (place-still p q a stays i) (place-still p q b stays' i))
    ∙ (λ i. vector (each a.start.x b.start.x i) (each a.start.y b.start.y i) (each a.start.z b.start.z i))
    ∙ (λ i. multiple (pos q) (difference (sym (place-still 0 1 a stays) i) (sym (place-still 0 1 b stays') i)))
  where
    each : (a b : ℤ) → pos q *ℤ a -ℤ pos q *ℤ b ≡ pos q *ℤ (pos 1 *ℤ a -ℤ pos 1 *ℤ b)
    each a b = ring (pos q ∷ a ∷ b ∷ []) (v 0 ⊗ v 1 ⊖ v 0 ⊗ v 2) (v 0 ⊗ (num (pos 1) ⊗ v 1 ⊖ num (pos 1) ⊗ v 2)) tt

-- the volume of a tetrahedron that stays is the same at each moment, times q^3
pub still_volume : (t : Corners) (p q : ℕ) → AreStill t → volume_at p q t ≡ pos (q * (q * q)) *ℤ volume_at 0 1 t
still_volume t p q stays =
    let edges : edges_at p q t ≡ scaled_edges (pos q) (edges_at 0 1 t) = λ i. record {
      u = edge-still p q t.second t.first stays.second stays.first i;
      v = edge-still p q t.third t.first stays.third stays.first i;
      w = edge-still p q t.fourth t.first stays.fourth stays.first i;
    } in
    let cube : pos q *ℤ (pos q *ℤ (pos q *ℤ volume_at 0 1 t)) ≡ (pos q *ℤ (pos q *ℤ pos q)) *ℤ volume_at 0 1 t = ring (pos q ∷ volume_at 0 1 t ∷ []) (v 0 ⊗ (v 0 ⊗ (v 0 ⊗ v 1))) ((v 0 ⊗ (v 0 ⊗ v 0)) ⊗ v 1) tt in
    ap volume_of edges ∙ volume-scaled (pos q) (edges_at 0 1 t) ∙ cube

pub still_volume_sign : (t : Corners) (p q : ℕ) → AreStill t → 0 < q → pos 0 <ℤ volume_at p q t ↔ pos 0 <ℤ volume_at 0 1 t
still_volume_sign t p q stays some =
    let e = still_volume t p q stays in (
      λ h. pos_of_times_nat (q * (q * q)) (volume_at 0 1 t) (subst (λ z. pos 0 <ℤ z) e h),
      λ h. subst (λ z. pos 0 <ℤ z) (sym e) (mul_pos_ℤ (pos (q * (q * q))) (volume_at 0 1 t) (natural (q * (q * q)) (cube_pos q some)) h),
    )
  where
    natural : (n : ℕ) → 0 < n → pos 0 <ℤ pos n
    natural n h = omega (arith, ints)

    cube_pos : (q : ℕ) → 0 < q → 0 < q * (q * q)
    cube_pos q h = mul-pos h (mul-pos h h)
