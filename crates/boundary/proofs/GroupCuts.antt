-- Where the first group of a list of faces ends.
use Rattle.std.proofs.Common.{◌≡◌, ◌∙◌, ℕ, suc, ◌+◌, ◌<◌, Bool, true, false, not, cond, List, [], ◌∷◌, ap, sym, refl, length, get_or, take, drop, arith}
use Rattle.std.specs.List.{prefix_len}
use Rattle.std.specs.Prelude.{nat_eq}
use Rattle.std.specs.Cmp.Lexicographic.{pointwise}
use Rattle.std.proofs.lemmas.List.{get_or_default}
use Rattle.std.proofs.lemmas.List.Sums.{prefix_len_is}
use borrow.Author.Count.{below_more}
use Rattle.boundary.specs.declared.faces.Face.{Face}
use Rattle.boundary.specs.Calls.Groups.{first_corners, groups_of, put_before}
use Rattle.boundary.specs.Faces.{has_corners}
use Rattle.boundary.proofs.Order.{same_nodes, same_test}

-- the first group is the first face with those after it that have its corners
after_first : (f : Face) (fs : List Face) → groups_of (f ∷ fs) ≡ (f ∷ take (prefix_len (has_corners f.corners) fs) fs) ∷ groups_of (drop (prefix_len (has_corners f.corners) fs) fs)
after_first f [] = refl
after_first f (g ∷ gs) = ap (put_before f) (after_first g gs) ∙ by (has_corners f.corners g) refl (after_first g gs)
  where
    by : (b : Bool) → has_corners f.corners g ≡ b → groups_of (g ∷ gs) ≡ (g ∷ take (prefix_len (has_corners g.corners) gs) gs) ∷ groups_of (drop (prefix_len (has_corners g.corners) gs) gs) → put_before f ((g ∷ take (prefix_len (has_corners g.corners) gs) gs) ∷ groups_of (drop (prefix_len (has_corners g.corners) gs) gs)) ≡ (f ∷ take (prefix_len (has_corners f.corners) (g ∷ gs)) (g ∷ gs)) ∷ groups_of (drop (prefix_len (has_corners f.corners) (g ∷ gs)) (g ∷ gs))
    by true e h =
        let k = prefix_len (has_corners g.corners) gs in
        let rest = groups_of (drop k gs) in
        let len : prefix_len (has_corners f.corners) (g ∷ gs) ≡ suc k =
        ap (λ b. cond b (1 + prefix_len (has_corners f.corners) gs) 0) e
        ∙ (let one : 1 + prefix_len (has_corners f.corners) gs ≡ suc (prefix_len (has_corners f.corners) gs) = omega arith in one)
        ∙ ap (λ c. suc (prefix_len (has_corners c) gs)) (sym (same_nodes g.corners f.corners e)) in
        ap (λ b. cond b ((f ∷ g ∷ take k gs) ∷ rest) ((f ∷ []) ∷ (g ∷ take k gs) ∷ rest)) e
        ∙ ap (λ n. (f ∷ take n (g ∷ gs)) ∷ groups_of (drop n (g ∷ gs))) (sym len)
    by false e h =
        let k = prefix_len (has_corners g.corners) gs in
        let rest = groups_of (drop k gs) in
        let len : prefix_len (has_corners f.corners) (g ∷ gs) ≡ 0 = ap (λ b. cond b (1 + prefix_len (has_corners f.corners) gs) 0) e in
        ap (λ b. cond b ((f ∷ g ∷ take k gs) ∷ rest) ((f ∷ []) ∷ (g ∷ take k gs) ∷ rest)) e
        ∙ ap (λ groups. (f ∷ []) ∷ groups) (sym h)
        ∙ ap (λ n. (f ∷ take n (g ∷ gs)) ∷ groups_of (drop n (g ∷ gs))) (sym len)

len_of_first : (f : Face) (fs : List Face) → prefix_len (has_corners f.corners) (f ∷ fs) ≡ suc (prefix_len (has_corners f.corners) fs)
len_of_first f fs =
    ap (λ b. cond b (1 + prefix_len (has_corners f.corners) fs) 0) (same_test f.corners f.corners refl)
    ∙ (let one : 1 + prefix_len (has_corners f.corners) fs ≡ suc (prefix_len (has_corners f.corners) fs) = omega arith in one)

-- the faces at the front with the corners of the first are the first group
pub first_cut : (faces : List Face) (n : ℕ) → 0 < length faces → n ≡ prefix_len (has_corners (first_corners faces)) faces → groups_of faces ≡ take n faces ∷ groups_of (drop n faces)
first_cut [] n h e = absurd (omega arith)
first_cut (f ∷ fs) n h e =
    after_first f fs ∙ ap (λ k. take k (f ∷ fs) ∷ groups_of (drop k (f ∷ fs))) (sym (e ∙ len_of_first f fs))

-- the first group has a face
pub first_some : (faces : List Face) (n : ℕ) → 0 < length faces → n ≡ prefix_len (has_corners (first_corners faces)) faces → 0 < n
first_some [] n h e = absurd (omega arith)
first_some (f ∷ fs) n h e = omega (arith, e, len_of_first f fs)

-- the corners of the first face
pub first_is : (faces : List Face) (d : Face) → 0 < length faces → (get_or faces 0 d).corners ≡ first_corners faces
first_is [] d h = absurd (omega arith)
first_is (f ∷ fs) d h = refl

-- each of the first k faces has the corners of the first
abbrev pub AreAlikeBelow : List Face → ℕ → Type 0
AreAlikeBelow faces k = (j : ℕ) → j < k → (d : Face) → has_corners (first_corners faces) (get_or faces j d) ≡ true

-- the first group ends at k, where the face at k has other corners
pub group_stops : (faces : List Face) (k : ℕ) (d : Face) (differ : Bool) → 0 < length faces → k < length faces → AreAlikeBelow faces k → differ ≡ true → differ ≡ not (pointwise nat_eq (get_or faces k d).corners (get_or faces 0 d).corners) → k ≡ prefix_len (has_corners (first_corners faces)) faces
group_stops faces k d differ some l below holds is =
    sym (prefix_len_is (has_corners (first_corners faces)) faces k d (omega arith) (λ j h. below j h d)
    (λ _. ap (pointwise nat_eq (get_or faces k d).corners) (sym (first_is faces d some)) ∙ flipped (pointwise nat_eq (get_or faces k d).corners (get_or faces 0 d).corners) (sym is ∙ holds)))
  where
    flipped : (b : Bool) → not b ≡ true → b ≡ false
    flipped true e = cc
    flipped false e = refl

-- and at the end, where all have the corners of the first
pub group_ends : (faces : List Face) (k : ℕ) (d : Face) → k ≡ length faces → AreAlikeBelow faces k → length faces ≡ prefix_len (has_corners (first_corners faces)) faces
group_ends faces k d e below = sym (prefix_len_is (has_corners (first_corners faces)) faces (length faces) d (omega arith) (λ j h. below j (omega arith) d) (λ h. absurd (omega arith)))

-- it goes on where the face at k has the corners of the first
pub group_goes_on : (faces : List Face) (k : ℕ) (d : Face) (differ : Bool) → 0 < length faces → k < length faces → AreAlikeBelow faces k → differ ≡ false → differ ≡ not (pointwise nat_eq (get_or faces k d).corners (get_or faces 0 d).corners) → AreAlikeBelow faces (k + 1)
group_goes_on faces k d differ some l below fails is =
    below_more (λ j. (e : Face) → has_corners (first_corners faces) (get_or faces j e) ≡ true) k below
    (λ e. ap (has_corners (first_corners faces)) (get_or_default faces k e d l) ∙ ap (pointwise nat_eq (get_or faces k d).corners) (sym (first_is faces d some)) ∙ flipped (pointwise nat_eq (get_or faces k d).corners (get_or faces 0 d).corners) (sym is ∙ fails))
  where
    flipped : (b : Bool) → not b ≡ false → b ≡ true
    flipped true e = refl
    flipped false e = cc
