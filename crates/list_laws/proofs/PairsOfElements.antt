-- What holds of each element of one list with each of another.
use Rattle.std.proofs.Common.{List, map}
use Rattle.std.specs.Prelude.{All}
use Rattle.std.proofs.lemmas.List.Elements.{All-map, All-weaker}
use Rattle.list_laws.proofs.Elements.{All-map_back}

-- R holds of each element of the first list with each of the second
abbrev pub Each : {X Y : Type 0} → (X → Y → Type 0) → List X → List Y → Type 0
Each R xs ys = All (λ x. All (λ y. R x y) ys) xs

-- a relation of each two images, for the mapped lists
pub Each-map : {X Y : Type 0} (R : Y → Y → Type 0) (f : X → Y) (xs ys : List X) → Each (λ x y. R (f x) (f y)) xs ys → Each R (map f xs) (map f ys)
Each-map R f xs ys h = All-map (λ a. All (λ b. R a b) (map f ys)) f xs (All-weaker (λ x. All (λ y. R (f x) (f y)) ys) (λ x. All (λ b. R (f x) b) (map f ys)) (λ x. All-map (λ b. R (f x) b) f ys) xs h)

-- a relation of each two elements of mapped lists, for the images
pub Each-map_back : {X Y : Type 0} (R : Y → Y → Type 0) (f : X → Y) (xs ys : List X) → Each R (map f xs) (map f ys) → Each (λ x y. R (f x) (f y)) xs ys
Each-map_back R f xs ys h = All-weaker (λ x. All (λ b. R (f x) b) (map f ys)) (λ x. All (λ y. R (f x) (f y)) ys) (λ x. All-map_back (λ b. R (f x) b) f ys) xs (All-map_back (λ a. All (λ b. R a b) (map f ys)) f xs h)

-- a third relation that follows from two others
pub Each-both : {X Y : Type 0} (P Q R : X → Y → Type 0) (xs : List X) (ys : List Y) → ((x : X) (y : Y) → P x y → Q x y → R x y) → Each P xs ys → Each Q xs ys → Each R xs ys
Each-both P Q R xs ys f h g = λ k d i l e j. f _ _ (h k d i l e j) (g k d i l e j)
