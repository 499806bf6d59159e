-- Filters of mapped and of joined lists.
use Rattle.std.proofs.Common.{◌≡◌, ◌∙◌, Bool, true, false, cond, List, [], ◌∷◌, ◌++◌, map, ap, refl}
use Rattle.std.specs.List.{All, filter, flat_map}
use Rattle.std.proofs.lemmas.List.Elements.{All-nil, All-cons, All-head, All-tail, filter-append}

-- a filter of images keeps the images of what passes
pub filter-map : {A B : Type 0} (p : B → Bool) (f : A → B) (xs : List A) → filter p (map f xs) ≡ map f (filter (λ x. p (f x)) xs)
filter-map p f [] = refl
filter-map p f (x ∷ xs) =
    ap (λ l. cond (p (f x)) (f x ∷ l) l) (filter-map p f xs)
    ∙ by (p (f x))
  where
    by : (b : Bool) → cond b (f x ∷ map f (filter (λ y. p (f y)) xs)) (map f (filter (λ y. p (f y)) xs)) ≡ map f (cond b (x ∷ filter (λ y. p (f y)) xs) (filter (λ y. p (f y)) xs))
    by true = refl
    by false = refl

-- a filter of joined lists joins what it keeps of each
pub filter-flat_map : {X A : Type 0} (p : A → Bool) (f : X → List A) (xs : List X) → filter p (flat_map f xs) ≡ flat_map (λ x. filter p (f x)) xs
filter-flat_map p f [] = refl
filter-flat_map p f (x ∷ xs) = filter-append p (f x) (flat_map f xs) ∙ ap (λ l. filter p (f x) ++ l) (filter-flat_map p f xs)

-- what holds of all that pass and of all that don't holds of all
pub All-filter_back : {A : Type 0} (P Q : A → Type 0) (test : A → Bool) → ((x : A) → Q x → test x ≡ false → P x) → (xs : List A) → All Q xs → All P (filter test xs) → All P xs
All-filter_back P Q test fails [] h k = All-nil P
All-filter_back P Q test fails (x ∷ xs) h k = by (All-filter_back P Q test fails xs (All-tail Q x xs h)) (test x) refl k
  where
    by : (All P (filter test xs) → All P xs) → (b : Bool) → test x ≡ b → All P (cond b (x ∷ filter test xs) (filter test xs)) → All P (x ∷ xs)
    by rest true e l = All-cons P x xs (All-head P x (filter test xs) l) (rest (All-tail P x (filter test xs) l))
    by rest false e l = All-cons P x xs (fails x (All-head Q x xs h) e) (rest l)
