-- The first of what is left of a row, of rows and of kinds.
use Rattle.std.proofs.Common.{◌≡◌, ◌∙◌, ℕ, suc, ◌+◌, ◌-◌, ◌<◌, Bool, true, false, cond, List, [], ◌∷◌, ◌++◌, map, length, get_or, drop, None, Some, ap, refl, arith}
use Rattle.std.specs.Prelude.{slice_get}
use Rattle.std.specs.List.{range_with_len, filter, flat_map}
use Rattle.std.proofs.lemmas.List.{drop_more}

range_opens : (n end : ℕ) → n < end → range_with_len n (end - n) ≡ n ∷ range_with_len (n + 1) (end - (n + 1))
range_opens n end h = let more : end - n ≡ suc (end - (n + 1)) = omega arith in ap (range_with_len n) more

-- a number that fails the test is passed over
pub skip : {A : Type 0} (p : ℕ → Bool) (f : ℕ → A) (n end : ℕ) → n < end → p n ≡ false → map f (filter p (range_with_len n (end - n))) ≡ map f (filter p (range_with_len (n + 1) (end - (n + 1))))
skip p f n end h e =
    let rest = range_with_len (n + 1) (end - (n + 1)) in
    ap (λ l. map f (filter p l)) (range_opens n end h)
    ∙ ap (λ b. map f (cond b (n ∷ filter p rest) (filter p rest))) e

-- a number that passes it is first
pub hit : {A : Type 0} (p : ℕ → Bool) (f : ℕ → A) (n end : ℕ) → n < end → p n ≡ true → slice_get (map f (filter p (range_with_len n (end - n)))) 0 ≡ Some (f n)
hit p f n end h e =
    let rest = range_with_len (n + 1) (end - (n + 1)) in
    ap (λ l. slice_get (map f (filter p l)) 0) (range_opens n end h)
    ∙ ap (λ b. slice_get (map f (cond b (n ∷ filter p rest) (filter p rest))) 0) e

pub first_of_two : {A : Type 0} (xs ys : List A) (x : A) → slice_get xs 0 ≡ Some x → slice_get (xs ++ ys) 0 ≡ Some x
first_of_two [] ys x e = cc
first_of_two (y ∷ xs) ys x e = e

pub none_of_first : {A : Type 0} (xs ys : List A) → slice_get xs 0 ≡ None → xs ++ ys ≡ ys
none_of_first [] ys e = refl
none_of_first (y ∷ xs) ys e = cc

-- an empty row is passed over
pub skip_row : {A : Type 0} (f : ℕ → List A) (n end : ℕ) → n < end → slice_get (f n) 0 ≡ None → flat_map f (range_with_len n (end - n)) ≡ flat_map f (range_with_len (n + 1) (end - (n + 1)))
skip_row f n end h e =
    ap (flat_map f) (range_opens n end h)
    ∙ none_of_first (f n) (flat_map f (range_with_len (n + 1) (end - (n + 1)))) e

-- the first of a row is the first of the rows from it on
pub hit_row : {A : Type 0} (f : ℕ → List A) (n end : ℕ) (x : A) → n < end → slice_get (f n) 0 ≡ Some x → slice_get (flat_map f (range_with_len n (end - n))) 0 ≡ Some x
hit_row f n end x h e =
    ap (λ l. slice_get (flat_map f l) 0) (range_opens n end h)
    ∙ first_of_two (f n) (flat_map f (range_with_len (n + 1) (end - (n + 1)))) x e

-- the same for lists of the elements of a list
pub skip_list : {X A : Type 0} (f : X → List A) (xs : List X) (i : ℕ) (d : X) → i < length xs → slice_get (f (get_or xs i d)) 0 ≡ None → flat_map f (drop i xs) ≡ flat_map f (drop (i + 1) xs)
skip_list f xs i d h e =
    ap (flat_map f) (drop_more xs i d h)
    ∙ none_of_first (f (get_or xs i d)) (flat_map f (drop (i + 1) xs)) e

pub hit_list : {X A : Type 0} (f : X → List A) (xs : List X) (i : ℕ) (d : X) (x : A) → i < length xs → slice_get (f (get_or xs i d)) 0 ≡ Some x → slice_get (flat_map f (drop i xs)) 0 ≡ Some x
hit_list f xs i d x h e =
    ap (λ l. slice_get (flat_map f l) 0) (drop_more xs i d h)
    ∙ first_of_two (f (get_or xs i d)) (flat_map f (drop (i + 1) xs)) x e
