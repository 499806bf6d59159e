-- Three different nodes, written ascending.
use Rattle.std.proofs.Common.{◌≡◌, ◌≢◌, ℕ, zero, suc, ◌+◌, ◌<◌, min, max, List, [], ◌∷◌, map, length, get_or, arith, true, false, refl, sym, ◌∙◌, subst, inl, inr, lit<}
use Rattle.std.specs.Prelude.{slice_index, ◌==◌}
use Rattle.std.specs.List.{All, enumerate_from}
use Rattle.std.specs.List.Sorted.{IsStrictlyIncreasing}
use borrow.Author.Tests.{eq-eqb}
use Rattle.std.proofs.lemmas.Bool.{cases_lt}
use Rattle.std.proofs.lemmas.List.Elements.{All-nil, All-cons, All-map}
use Rattle.std.proofs.lemmas.List.FromFn.{get_or-enumerate_from, length-enumerate_from}
use Rattle.std.proofs.lemmas.Map.Keys.{apart_from_distinct}
use Rattle.space3.specs.declared.lists.Tet.{Tet}
use Rattle.space3.specs.Mesh.{IsSoundTet}
use Rattle.list_laws.proofs.Membership.{All-flat_map}
use Rattle.boundary.specs.declared.faces.Face.{Face}
use Rattle.boundary.specs.Faces.{ascending, face_of, faces_of, three, turns_of}
use Rattle.boundary.specs.Surface.{IsAscendingTriple}

-- corners of a face of so many nodes
pub record AreCorners (nodes : ℕ) (corners : List ℕ) : Type 0 where
  pub triple : IsAscendingTriple corners
  pub below : All (λ node. node < nodes) corners

low_middle : (a b c : ℕ) → a ≢ b → b ≢ c → a ≢ c → min (min a b) c < max (min a b) (min (max a b) c)
low_middle a b c ab bc ac = omega arith

middle_high : (a b c : ℕ) → a ≢ b → b ≢ c → a ≢ c → max (min a b) (min (max a b) c) < max (max a b) c
middle_high a b c ab bc ac = omega arith

rising_three : (a b c : ℕ) → a < b → b < c → IsStrictlyIncreasing (three a b c)
rising_three a b c ab bc zero l = ab
rising_three a b c ab bc (suc zero) l = bc
rising_three a b c ab bc (suc (suc k)) l = absurd (omega arith)

three_below : (n a b c : ℕ) → a < n → b < n → c < n → All (λ node. node < n) (three a b c)
three_below n a b c al bl cl = All-cons (λ node. node < n) a (b ∷ c ∷ []) al (All-cons (λ node. node < n) b (c ∷ []) bl (All-cons (λ node. node < n) c [] cl (All-nil (λ node. node < n))))

ascending_three : (n a b c : ℕ) → a < n → b < n → c < n → a ≢ b → b ≢ c → a ≢ c → AreCorners n (ascending (three a b c))
ascending_three n a b c al bl cl ab bc ac = record {
  triple = record {
    three = refl;
    ascending = rising_three (min (min a b) c) (max (min a b) (min (max a b) c)) (max (max a b) c) (low_middle a b c ab bc ac) (middle_high a b c ab bc ac);
  };
  below = three_below n (min (min a b) c) (max (min a b) (min (max a b) c)) (max (max a b) c) (omega arith) (omega arith) (omega arith);
}

-- the corners of a face have the three nodes of a turn
abbrev FaceHasCorners : ℕ → Face → Type 0
FaceHasCorners nodes f = AreCorners nodes f.corners

differ : (x y : ℕ) → (x == y) ≡ false → x ≢ y
differ x y h e = let t : true ≡ false = sym (eq-eqb x y e) ∙ h in cc

-- two nodes of a sound tetrahedron differ
apart : (nodes : ℕ) (tet : Tet) → IsSoundTet nodes tet → (i j : ℕ) → i < 4 → j < 4 → i ≢ j → slice_index tet.nodes i ≢ slice_index tet.nodes j
apart nodes tet sound i j il jl ij e =
    elim (cases_lt i j) [
      | inl l ↦ differ (slice_index tet.nodes i) (slice_index tet.nodes j) (apart_from_distinct (λ x y. x == y) tet.nodes i j 0 sound.different l (omega (arith, sound.four))) e
      | inr h ↦ differ (slice_index tet.nodes j) (slice_index tet.nodes i) (apart_from_distinct (λ x y. x == y) tet.nodes j i 0 sound.different (omega arith) (omega (arith, sound.four))) (sym e)
    ]

corner : (nodes : ℕ) (tet : Tet) → IsSoundTet nodes tet → (i j l : ℕ) → i < 4 → j < 4 → l < 4 → i ≢ j → j ≢ l → i ≢ l → AreCorners nodes (ascending (three (slice_index tet.nodes i) (slice_index tet.nodes j) (slice_index tet.nodes l)))
corner nodes tet sound i j l il jl ll ij jk ik =
    let n = slice_index tet.nodes in
    ascending_three nodes (n i) (n j) (n l) (below i il) (below j jl) (below l ll) (apart nodes tet sound i j il jl ij) (apart nodes tet sound j l jl ll jk) (apart nodes tet sound i l il ll ik)
  where
    below : (k : ℕ) → k < 4 → slice_index tet.nodes k < nodes
    below k h = sound.there k 0 (omega (arith, sound.four))

-- the faces of a sound tetrahedron have three different nodes each
tet_corners : (nodes k : ℕ) (tet : Tet) → IsSoundTet nodes tet → All (FaceHasCorners nodes) (map (face_of k) (turns_of tet.nodes))
tet_corners nodes k tet sound =
    let n = slice_index tet.nodes in
    let P : List ℕ → Type 0 = λ t. AreCorners nodes (ascending t) in
    All-map (FaceHasCorners nodes) (face_of k) (turns_of tet.nodes)
    (All-cons P (three (n 1) (n 2) (n 3)) (three (n 0) (n 3) (n 2) ∷ three (n 0) (n 1) (n 3) ∷ three (n 0) (n 2) (n 1) ∷ []) (corner nodes tet sound 1 2 3 (lit< tt) (lit< tt) (lit< tt) (omega arith) (omega arith) (omega arith))
    (All-cons P (three (n 0) (n 3) (n 2)) (three (n 0) (n 1) (n 3) ∷ three (n 0) (n 2) (n 1) ∷ []) (corner nodes tet sound 0 3 2 (lit< tt) (lit< tt) (lit< tt) (omega arith) (omega arith) (omega arith))
    (All-cons P (three (n 0) (n 1) (n 3)) (three (n 0) (n 2) (n 1) ∷ []) (corner nodes tet sound 0 1 3 (lit< tt) (lit< tt) (lit< tt) (omega arith) (omega arith) (omega arith))
    (All-cons P (three (n 0) (n 2) (n 1)) [] (corner nodes tet sound 0 2 1 (lit< tt) (lit< tt) (lit< tt) (omega arith) (omega arith) (omega arith)) (All-nil P)))))

-- the faces of sound tetrahedra have three different nodes each
pub faces_corners : (nodes : ℕ) (tets : List Tet) → All (IsSoundTet nodes) tets → All (FaceHasCorners nodes) (faces_of tets)
faces_corners nodes tets sound =
    All-flat_map (FaceHasCorners nodes) (λ placed. map (face_of placed.0) (turns_of placed.1.nodes)) (enumerate_from 0 tets)
    (λ k d l.
    let below : k < length tets = omega (arith, length-enumerate_from 0 tets) in
    subst (λ placed. All (FaceHasCorners nodes) (map (face_of placed.0) (turns_of placed.1.nodes)))
    (sym (get_or-enumerate_from 0 tets k d below))
    (tet_corners nodes (0 + k) (get_or tets k d.1) (sound k d.1 below)))
