-- The start and the end of a motion, and what stands.
use Rattle.std.proofs.Common.{◌≡◌, ℕ, ℤ, pos, ◌+ℤ◌, ◌*ℤ◌, ◌<ℤ◌, List, [], ◌∷◌, map, refl, sym, subst, arith}
use Rattle.std.specs.Prelude.{All, slice_index_or}
use Rattle.std.proofs.lemmas.List.Elements.{All-map}
use Rattle.space3.specs.declared.vectors.V3.{V3}
use Rattle.space3.specs.Vectors.{vector, difference, determinant}
use Rattle.space3.specs.Mesh.{place_of, rest_determinant}
use Rattle.whole_laws.proofs.Ring.{ring, v, num, ◌⊕◌, ◌⊗◌}
use Rattle.safe_motion.specs.declared.motion.Move.{Move}
use Rattle.safe_motion.specs.Moments.{IsFraction, IsStill, place_at, places_at, start_places}
use Rattle.safe_motion.specs.Certificates.{volume_at}
use Rattle.safe_motion.specs.Safety.{PartPair, SafeMotion, SafePlaces, node_move, node_moves, corners}
use Rattle.safe_motion.proofs.Standing.{meeting_along, still_meeting, still_volume_sign}

pub place-start : (m : Move) → place_at 0 1 m ≡ m.start
place-start m = λ i. vector (each m.start.x m.end.x i) (each m.start.y m.end.y i) (each m.start.z m.end.z i)
  where
    each : (a b : ℤ) → pos 1 *ℤ a +ℤ pos 0 *ℤ b ≡ a
    each a b = ring (a ∷ b ∷ []) (num (pos 1) ⊗ v 0 ⊕ num (pos 0) ⊗ v 1) (v 0) tt

pub place-end : (m : Move) → place_at 1 1 m ≡ m.end
place-end m = λ i. vector (each m.start.x m.end.x i) (each m.start.y m.end.y i) (each m.start.z m.end.z i)
  where
    each : (a b : ℤ) → pos 0 *ℤ a +ℤ pos 1 *ℤ b ≡ b
    each a b = ring (a ∷ b ∷ []) (num (pos 0) ⊗ v 0 ⊕ num (pos 1) ⊗ v 1) (v 1) tt

pub places-start : (x0 x1 : List V3) (nodes : List ℕ) → places_at 0 1 (node_moves x0 x1 nodes) ≡ map (place_of x0) nodes
places-start x0 x1 [] = refl
places-start x0 x1 (node ∷ nodes) = λ i. place-start (node_move x0 x1 node) i ∷ places-start x0 x1 nodes i

places-end : (x0 x1 : List V3) (nodes : List ℕ) → places_at 1 1 (node_moves x0 x1 nodes) ≡ map (place_of x1) nodes
places-end x0 x1 [] = refl
places-end x0 x1 (node ∷ nodes) = λ i. place-end (node_move x0 x1 node) i ∷ places-end x0 x1 nodes i

volume-start : (x0 x1 : List V3) (tet : List ℕ) → volume_at 0 1 (corners x0 x1 tet) ≡ rest_determinant x0 tet
volume-start x0 x1 tet =
    let c = λ (k : ℕ). place-start (node_move x0 x1 (slice_index_or tet k 0)) in
    λ i. determinant (difference (c 1 i) (c 0 i)) (difference (c 2 i) (c 0 i)) (difference (c 3 i) (c 0 i))

volume-end : (x0 x1 : List V3) (tet : List ℕ) → volume_at 1 1 (corners x0 x1 tet) ≡ rest_determinant x1 tet
volume-end x0 x1 tet =
    let c = λ (k : ℕ). place-end (node_move x0 x1 (slice_index_or tet k 0)) in
    λ i. determinant (difference (c 1 i) (c 0 i)) (difference (c 2 i) (c 0 i)) (difference (c 3 i) (c 0 i))

start : IsFraction 0 1
start = record { within = omega arith; divisor = omega arith }

end : IsFraction 1 1
end = record { within = omega arith; divisor = omega arith }

pub safe_start : (pairs : List PartPair) (tets : List (List ℕ)) (x0 x1 : List V3) → SafeMotion pairs tets x0 x1 → SafePlaces pairs tets x0
safe_start pairs tets x0 x1 s = record {
  apart = λ k d l m. s.apart 0 1 start k d l (meeting_along (sym (places-start x0 x1 _)) (sym (places-start x0 x1 _)) m);
  upright = λ k d l. subst (λ z. pos 0 <ℤ z) (volume-start x0 x1 (slice_index_or tets k d)) (s.upright 0 1 start k d l);
}

pub safe_end : (pairs : List PartPair) (tets : List (List ℕ)) (x0 x1 : List V3) → SafeMotion pairs tets x0 x1 → SafePlaces pairs tets x1
safe_end pairs tets x0 x1 s = record {
  apart = λ k d l m. s.apart 1 1 end k d l (meeting_along (sym (places-end x0 x1 _)) (sym (places-end x0 x1 _)) m);
  upright = λ k d l. subst (λ z. pos 0 <ℤ z) (volume-end x0 x1 (slice_index_or tets k d)) (s.upright 1 1 end k d l);
}

-- ---- what stands
places-standing : (x : List V3) (nodes : List ℕ) → start_places (node_moves x x nodes) ≡ map (place_of x) nodes
places-standing x [] = refl
places-standing x (node ∷ nodes) = λ i. place_of x node ∷ places-standing x nodes i

standing : (x : List V3) (nodes : List ℕ) → All IsStill (node_moves x x nodes)
standing x nodes = All-map IsStill (node_move x x) nodes (λ k d l. refl)

pub standing_safe : (pairs : List PartPair) (tets : List (List ℕ)) (x : List V3) → SafePlaces pairs tets x → SafeMotion pairs tets x x
standing_safe pairs tets x s = record {
  apart = λ p q f k d l m.
      let pair = slice_index_or pairs k d in
      s.apart k d l (meeting_along (places-standing x pair.left) (places-standing x pair.right)
      ((still_meeting (node_moves x x pair.left) (node_moves x x pair.right) p q (standing x pair.left) (standing x pair.right) f.divisor).0 m));
  upright = λ p q f k d l.
      let tet = slice_index_or tets k d in
      (still_volume_sign (corners x x tet) p q (record { first = refl; second = refl; third = refl; fourth = refl }) f.divisor).1
      (subst (λ z. pos 0 <ℤ z) (sym (volume-start x x tet)) (s.upright k d l));
}
