-- Lists that a loop makes, by one element or list at a turn.
use Rattle.std.proofs.Common.{◌≡◌, ◌∙◌, ℕ, zero, suc, ◌+◌, ◌<◌, List, [], ◌∷◌, ◌++◌, length, map, take, get_or, refl, ap, sym, subst, arith, add-one}
use Rattle.std.specs.Prelude.{All}
use Rattle.std.specs.List.{flat_map, range_with_len, zip}
use Rattle.std.proofs.lemmas.List.{flat_map_more, take_more}
use Rattle.std.proofs.lemmas.List.FromFn.{map-range_with_len_more}
use Rattle.std.proofs.lemmas.List.Elements.{All-push}

-- one more image of a counted number
pub counted_more : {X : Type 0} (f : ℕ → X) (i : ℕ) (x : X) (before after : List X) → before ≡ map f (range_with_len 0 i) → x ≡ f i
    → after ≡ before ++ x ∷ [] → after ≡ map f (range_with_len 0 (i + 1))
counted_more f i x before after so_far next pushed =
    pushed ∙ (λ t. so_far t ++ next t ∷ []) ∙ sym (map-range_with_len_more f 0 i i (omega arith))

-- one more element of a list
pub taken_more : {X : Type 0} (xs : List X) (i : ℕ) (d x : X) (before after : List X) → i < length xs → before ≡ take i xs → x ≡ get_or xs i d
    → after ≡ before ++ x ∷ [] → after ≡ take (i + 1) xs
taken_more xs i d x before after there so_far next pushed = pushed ∙ (λ t. so_far t ++ next t ∷ []) ∙ sym (take_more xs i d there)

-- one more image of a pair
zip-more : {X Y Z : Type 0} (f : X × Y → Z) (xs : List X) (ys : List Y) (i : ℕ) (d : X) (e : Y) → i < length xs → i < length ys
    → map f (zip (take (suc i) xs) (take (suc i) ys)) ≡ map f (zip (take i xs) (take i ys)) ++ f (get_or xs i d, get_or ys i e) ∷ []
zip-more f [] ys i d e h k = absurd (omega arith)
zip-more f (x ∷ xs) [] i d e h k = absurd (omega arith)
zip-more f (x ∷ xs) (y ∷ ys) zero d e h k = refl
zip-more {Z = Z} f (x ∷ xs) (y ∷ ys) (suc i) d e h k = ap (λ (rest : List Z). f (x, y) ∷ rest) (zip-more f xs ys i d e (omega arith) (omega arith))

pub zipped_more : {X Y Z : Type 0} (f : X × Y → Z) (xs : List X) (ys : List Y) (i : ℕ) (d : X) (e : Y) (z : Z) (before after : List Z) → i < length xs → i < length ys
    → before ≡ map f (zip (take i xs) (take i ys)) → z ≡ f (get_or xs i d, get_or ys i e)
    → after ≡ before ++ z ∷ [] → after ≡ map f (zip (take (i + 1) xs) (take (i + 1) ys))
zipped_more f xs ys i d e z before after h k so_far next pushed = rw (add-one i) (pushed ∙ (λ t. so_far t ++ next t ∷ []) ∙ sym (zip-more f xs ys i d e h k))

-- one more element of which the fact holds
pub all_more : {X : Type 0} (P : X → Type 0) (x : X) (before after : List X) → All P before → P x → after ≡ before ++ x ∷ [] → All P after
all_more P x before after so_far next pushed = subst (All P) (sym pushed) (All-push P before x so_far next)

-- the numbers from a on, and one more
pub range_more : (a n j : ℕ) → a + n ≡ j → range_with_len a (n + 1) ≡ range_with_len a n ++ j ∷ []
range_more a n j e = let on : n + 1 ≡ suc n = omega arith in ap (range_with_len a) on ∙ last a n j e
  where
    last : (a n j : ℕ) → a + n ≡ j → range_with_len a (suc n) ≡ range_with_len a n ++ j ∷ []
    last a zero j e = let same : a ≡ j = omega arith in ap (λ k. k ∷ []) same
    last a (suc n) j e = ap (λ l. a ∷ l) (last (a + 1) n j (omega arith))

-- the lists of the counted numbers one after another, and the list of one more
pub flat_map_counted_more : {A : Type 0} (f : ℕ → List A) (i : ℕ) → flat_map f (range_with_len 0 (i + 1)) ≡ flat_map f (range_with_len 0 i) ++ f i
flat_map_counted_more f i = ap (flat_map f) (range_more 0 i i (omega arith)) ∙ sym (flat_map_more f [] (range_with_len 0 i) i)
