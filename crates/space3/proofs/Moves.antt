-- Places that go along directions, one by one.
use Rattle.std.proofs.Common.{◌≡◌, ◌∙◌, ℕ, zero, suc, ◌+◌, ◌<◌, List, [], ◌∷◌, ◌++◌, length, take, get_or, refl, ap, sym, arith, add-one}
use Rattle.space3.specs.declared.vectors.V3.{V3}
use Rattle.space3.specs.Vectors.{sum_of}
use Rattle.space3.specs.Moved.{halved, moved_by}

-- one more place and direction
moved_by-more : (ps ds : List V3) (half i : ℕ) (p d : V3) → i < length ps → i < length ds → moved_by (take (suc i) ps) (take (suc i) ds) half ≡ moved_by (take i ps) (take i ds) half ++ sum_of (get_or ps i p) (halved half (get_or ds i d)) ∷ []
moved_by-more [] ds half i p d h k = absurd (omega arith)
moved_by-more (x ∷ xs) [] half i p d h k = absurd (omega arith)
moved_by-more (x ∷ xs) (y ∷ ys) half zero p d h k = refl
moved_by-more (x ∷ xs) (y ∷ ys) half (suc i) p d h k = ap (λ (rest : List V3). sum_of x (halved half y) ∷ rest) (moved_by-more xs ys half i p d (omega arith) (omega arith))

-- a list of the places so far, to which the next is added
pub moved_by_push : (ps ds : List V3) (half i : ℕ) (p d m : V3) (before after : List V3) → i < length ps → i < length ds → before ≡ moved_by (take i ps) (take i ds) half → m ≡ sum_of (get_or ps i p) (halved half (get_or ds i d)) → after ≡ before ++ m ∷ [] → after ≡ moved_by (take (i + 1) ps) (take (i + 1) ds) half
moved_by_push ps ds half i p d m before after h k so_far next pushed =
    rw (add-one i) (pushed ∙ (λ j. so_far j ++ next j ∷ []) ∙ sym (moved_by-more ps ds half i p d h k))

pub length-moved_by : (ps ds : List V3) (half : ℕ) → length ds ≡ length ps → length (moved_by ps ds half) ≡ length ps
length-moved_by [] ds half e = refl
length-moved_by (x ∷ xs) [] half e = absurd (omega arith)
length-moved_by (x ∷ xs) (y ∷ ys) half e = ap (λ n. suc n) (length-moved_by xs ys half (omega arith))
