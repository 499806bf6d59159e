-- What holds of the images of each element of one list with each of another.
use Rattle.std.proofs.Common.{List, [], ◌∷◌, map}
use Rattle.std.specs.Prelude.{All}
use Rattle.std.specs.List.{flat_map}
use Rattle.std.proofs.lemmas.List.Elements.{All-nil, All-cons, All-head, All-tail, All-append, All-map}
use Rattle.list_laws.proofs.Elements.{All-map_back, All-append_left, All-append_right}
use Rattle.list_laws.proofs.PairsOfElements.{Each}

-- what holds of the image of each two elements of two lists
pub All-images : {X Y Z : Type 0} (P : Z → Type 0) (f : X → Y → Z) (xs : List X) (ys : List Y) → Each (λ x y. P (f x y)) xs ys → All P (flat_map (λ x. map (f x) ys) xs)
All-images P f [] ys h = All-nil P
All-images P f (x ∷ xs) ys h =
    All-append P (map (f x) ys) (flat_map (λ z. map (f z) ys) xs) (All-map P (f x) ys (All-head (λ z. All (λ y. P (f z y)) ys) x xs h))
    (All-images P f xs ys (All-tail (λ z. All (λ y. P (f z y)) ys) x xs h))

pub All-images_back : {X Y Z : Type 0} (P : Z → Type 0) (f : X → Y → Z) (xs : List X) (ys : List Y) → All P (flat_map (λ x. map (f x) ys) xs) → Each (λ x y. P (f x y)) xs ys
All-images_back P f [] ys h = All-nil (λ x. All (λ y. P (f x y)) ys)
All-images_back P f (x ∷ xs) ys h =
    All-cons (λ z. All (λ y. P (f z y)) ys) x xs (All-map_back P (f x) ys (All-append_left P (map (f x) ys) (flat_map (λ z. map (f z) ys) xs) h))
    (All-images_back P f xs ys (All-append_right P (map (f x) ys) (flat_map (λ z. map (f z) ys) xs) h))
