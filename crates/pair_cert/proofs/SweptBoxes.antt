-- The boxes over the start and the end of a part.
use Rattle.std.proofs.Common.{◌≡◌, ◌∙◌, ◌<◌, List, [], ◌∷◌, ◌++◌, length, length-append, map, refl, sym, subst, arith}
use Rattle.std.specs.List.{zip}
use Rattle.std.specs.Prelude.{IsTrue, ◌↔◌}
use Rattle.space3.specs.declared.vectors.V3.{V3}
use Rattle.space3.specs.Boxes.{BoxesTouch, are_within, box_around, box_of}
use Rattle.space3.proofs.BoxLemmas.{box-joined, touch-is}
use Rattle.safe_motion.specs.Moments.{start_places, end_places}
use Rattle.safe_motion.specs.SweptBoxes.{both_ends}
use Rattle.pair_cert.specs.Parts.{move_between}

-- the places of moves that are put together from two lists
pub starts : (xs ys : List V3) → length xs ≡ length ys → start_places (map move_between (zip xs ys)) ≡ xs
starts [] ys e = refl
starts (x ∷ xs) [] e = absurd (omega arith)
starts (x ∷ xs) (y ∷ ys) e = λ i. x ∷ starts xs ys (omega arith) i

pub ends : (xs ys : List V3) → length xs ≡ length ys → end_places (map move_between (zip xs ys)) ≡ ys
ends [] [] e = refl
ends [] (y ∷ ys) e = absurd (omega arith)
ends (x ∷ xs) [] e = absurd (omega arith)
ends (x ∷ xs) (y ∷ ys) e = λ i. y ∷ ends xs ys (omega arith) i

joined : (xs ys : List V3) → 0 < length xs → 0 < length ys → box_around (box_of xs) (box_of ys) ≡ box_of (xs ++ ys)
joined [] ys h k = absurd (omega arith)
joined (x ∷ xs) [] h k = absurd (omega arith)
joined (x ∷ xs) (y ∷ ys) h k = box-joined x y xs ys

pub swept-box : (xs ys : List V3) → length xs ≡ length ys → 0 < length xs → box_around (box_of xs) (box_of ys) ≡ box_of (both_ends (map move_between (zip xs ys)))
swept-box xs ys e h = joined xs ys h (omega arith) ∙ sym (λ i. box_of (starts xs ys e i ++ ends xs ys e i))

pub some_ends : (xs ys : List V3) → length xs ≡ length ys → 0 < length xs → 0 < length (both_ends (map move_between (zip xs ys)))
some_ends xs ys e h = subst (λ (zs : List V3). 0 < length zs) (sym (λ i. starts xs ys e i ++ ends xs ys e i)) (omega (arith, length-append xs ys))

pub touching : (xs ys : List V3) → 0 < length xs → 0 < length ys → IsTrue (are_within 0 (box_of xs) (box_of ys)) ↔ BoxesTouch xs ys
touching [] ys h k = absurd (omega arith)
touching (x ∷ xs) [] h k = absurd (omega arith)
touching (x ∷ xs) (y ∷ ys) h k = touch-is x y xs ys
