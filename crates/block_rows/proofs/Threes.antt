-- Three numbers written behind others, and lists of three, joined.
use Rattle.std.proofs.Common.{◌≡◌, ◌∙◌, ℕ, ◌+◌, ◌*◌, ◌<◌, List, [], ◌∷◌, ◌++◌, length, take, set, get_or, refl, sym, ap, append_assoc, arith, zero-add, length-append}
use Rattle.std.specs.List.{flat_map, range_with_len}
use Rattle.std.proofs.lemmas.List.{length-set, length-take-le, take_more_set}
use Rattle.std.proofs.lemmas.List.Concat.{get_or-flat_map}
use Rattle.std.proofs.lemmas.List.FromFn.{get_or-range_with_len, length-range_with_len}

pub three_more : {X : Type 0} (xs : List X) (i j : ℕ) (x y z : X) → i + 2 < length xs → j ≡ i + 3 → take j (set (set (set xs i x) (i + 1) y) (i + 2) z) ≡ take i xs ++ x ∷ y ∷ z ∷ []
three_more {X} xs i j x y z h e =
    let one = set xs i x in
    let two = set one (i + 1) y in
    let one_long : i + 1 < length one = omega (arith, length-set xs i x) in
    let two_long : i + 2 < length two = omega (arith, length-set xs i x, length-set one (i + 1) y) in
    let to_three : j ≡ i + 2 + 1 = omega arith in
    let to_two : i + 2 ≡ i + 1 + 1 = omega arith in
    let there : i < length xs = omega arith in
    ap (λ (k : ℕ). take k (set two (i + 2) z)) to_three ∙ take_more_set two (i + 2) z two_long
    ∙ ap (λ (front : List X). front ++ z ∷ []) (ap (λ (k : ℕ). take k two) to_two ∙ take_more_set one (i + 1) y one_long
    ∙ ap (λ (front : List X). front ++ y ∷ []) (take_more_set xs i x there))
    ∙ ap (λ (front : List X). front ++ z ∷ []) (append_assoc (take i xs) (x ∷ []) (y ∷ []))
    ∙ append_assoc (take i xs) (x ∷ y ∷ []) (z ∷ [])

pub length-threes : {A : Type 0} (f : ℕ → List A) (xs : List ℕ) → ((x : ℕ) → length (f x) ≡ 3) → length (flat_map f xs) ≡ 3 * length xs
length-threes f [] h = refl
length-threes f (x ∷ xs) h = omega (arith, length-append (f x) (flat_map f xs), h x, length-threes f xs h)

-- those of x stand at 3 times x
pub get_or-threes : {A : Type 0} (f : ℕ → List A) (n x k : ℕ) (d : A) → ((x : ℕ) → length (f x) ≡ 3) → x < n → k < 3 → get_or (flat_map f (range_with_len 0 n)) (3 * x + k) d ≡ get_or (f x) k d
get_or-threes f n x k d h l m =
    let xs : List ℕ = range_with_len 0 n in
    let there : x < length xs = omega (arith, length-range_with_len 0 n) in
    let at : get_or xs x 0 ≡ x = get_or-range_with_len 0 n x 0 l ∙ zero-add x in
    let inside : k < length (f (get_or xs x 0)) = omega (arith, h (get_or xs x 0)) in
    let before : length (flat_map f (take x xs)) ≡ 3 * x = length-threes f (take x xs) h ∙ ap (λ j. 3 * j) (length-take-le x xs (omega (arith, there))) in
    ap (λ j. get_or (flat_map f xs) (j + k) d) (sym before) ∙ get_or-flat_map f xs x k 0 d there inside ∙ ap (λ j. get_or (f j) k d) at
