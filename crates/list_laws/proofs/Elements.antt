-- What holds of each element of a list that is mapped, joined or cut, and a search of a list.
use Rattle.std.proofs.Common.{◌≡◌, ◌∙◌, ℕ, suc, ◌<◌, ◌≤◌, List, [], ◌∷◌, ◌++◌, ◌⊎◌, inl, inr, map, take, length, get_or, length-take, refl, sym, subst, arith}
use Rattle.std.specs.Prelude.{All, Any}
use Rattle.std.proofs.lemmas.Bool.{cases_lt}
use Rattle.std.proofs.lemmas.List.{get_or-take}
use Rattle.std.proofs.lemmas.List.Elements.{All-nil, All-cons, All-get_or, All-head, All-tail}
use Rattle.std.proofs.Math.ListN.{get_or-eq_default}

-- what holds of each element of a mapped list holds of each image
pub All-map_back : {X Y : Type 0} (P : Y → Type 0) (f : X → Y) (xs : List X) → All P (map f xs) → All (λ x. P (f x)) xs
All-map_back P f [] h = All-nil (λ x. P (f x))
All-map_back P f (x ∷ xs) h = All-cons (λ y. P (f y)) x xs (All-head P (f x) (map f xs) h) (All-map_back P f xs (All-tail P (f x) (map f xs) h))

-- what holds of each element of a joined list holds of each of the first part
pub All-append_left : {X : Type 0} (P : X → Type 0) (xs ys : List X) → All P (xs ++ ys) → All P xs
All-append_left P [] ys h = All-nil P
All-append_left P (x ∷ xs) ys h = All-cons P x xs (All-head P x (xs ++ ys) h) (All-append_left P xs ys (All-tail P x (xs ++ ys) h))

-- and of each of the second part
pub All-append_right : {X : Type 0} (P : X → Type 0) (xs ys : List X) → All P (xs ++ ys) → All P ys
All-append_right P [] ys h = h
All-append_right P (x ∷ xs) ys h = All-append_right P xs ys (All-tail P x (xs ++ ys) h)

-- what holds of each of the first m elements holds of each of the first i, where i is at most m
pub All-take_less : {X : Type 0} (P : X → Type 0) (xs : List X) (i m : ℕ) → i ≤ m → All P (take m xs) → All P (take i xs)
All-take_less P xs i m l h k d b =
    let q : P (get_or (take m xs) k d) = h k d (omega (arith, length-take m xs, length-take i xs)) in
    let e : get_or (take m xs) k d ≡ get_or xs k d = get_or-take m xs k d (omega (arith, length-take i xs)) in
    let f : get_or (take i xs) k d ≡ get_or xs k d = get_or-take i xs k d (omega (arith, length-take i xs)) in
    subst P (e ∙ sym f) q

-- and of the element at i, where i is less than m
pub All-take_at : {X : Type 0} (P : X → Type 0) (xs : List X) (i m : ℕ) (d : X) → i < m → m ≤ length xs → All P (take m xs) → P (get_or xs i d)
All-take_at P xs i m d l k h = subst P (get_or-take m xs i d l) (h i d (omega (arith, length-take m xs)))

-- where each element has one of two facts, all have the first or some has the second
pub all_or_any : {X : Type 0} (P Q : X → Type 0) → ((x : X) → P x ⊎ Q x) → (xs : List X) → All P xs ⊎ Any Q xs
all_or_any P Q f [] = inl (All-nil P)
all_or_any P Q f (x ∷ xs) =
    elim (f x) [
      | inl p ↦ elim (all_or_any P Q f xs) [
        | inl ps ↦ inl (All-cons P x xs p ps)
        | inr q ↦ inr (suc q.0, q.1, omega (arith, q.2), q.3, q.4)
      ]
      | inr q ↦ inr (0, x, omega arith, refl, q)
    ]

-- what holds of each element and of the default holds of each read
pub at_any : {X : Type 0} (P : X → Type 0) (xs : List X) (i : ℕ) (d : X) → All P xs → P d → P (get_or xs i d)
at_any P xs i d h k = elim (cases_lt i (length xs)) [ inl l ↦ All-get_or P xs i d l h | inr l ↦ subst P (sym (get_or-eq_default xs d l)) k ]
