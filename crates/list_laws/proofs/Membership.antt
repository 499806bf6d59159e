-- What a list contains that is begun, mapped, filtered or joined.
use Rattle.std.proofs.Common.{◌≡◌, ◌∙◌, ℕ, ◌<◌, zero, suc, Bool, true, false, cond, List, [], ◌∷◌, ◌⊎◌, inl, inr, map, ap, sym, refl, subst, zero-add, arith}
use Rattle.std.specs.List.{All, Contains, filter, flat_map, range_with_len}
use Rattle.std.proofs.lemmas.Bool.{cases_Bool}
use Rattle.std.proofs.lemmas.List.FromFn.{get_or-range_with_len, length-range_with_len}
use Rattle.std.proofs.lemmas.List.Elements.{All-nil, All-append, All-head, All-tail, Contains-append_left, Contains-append_right, Contains-append_cases}

pub Contains-nil : {A : Type 0} (x : A) → Contains [] x → ⊥
Contains-nil x (k, l, e) = absurd (omega arith)

pub Contains-here : {A : Type 0} (x : A) (xs : List A) → Contains (x ∷ xs) x
Contains-here x xs = (zero, omega arith, refl)

pub Contains-later : {A : Type 0} (y : A) (xs : List A) (x : A) → Contains xs x → Contains (y ∷ xs) x
Contains-later y xs x (k, l, e) = (suc k, omega arith, e)

pub Contains-cons_cases : {A : Type 0} (y : A) (xs : List A) (x : A) → Contains (y ∷ xs) x → (y ≡ x) ⊎ Contains xs x
Contains-cons_cases y xs x (zero, l, e) = inl e
Contains-cons_cases y xs x (suc k, l, e) = inr (k, omega arith, e)

pub Contains-map : {A B : Type 0} (f : A → B) (xs : List A) (x : A) → Contains xs x → Contains (map f xs) (f x)
Contains-map f [] x (k, l, e) = absurd (omega arith)
Contains-map f (y ∷ ys) x (zero, l, e) = (zero, omega arith, ap f e)
Contains-map f (y ∷ ys) x (suc k, l, e) = Contains-later (f y) (map f ys) (f x) (Contains-map f ys x (k, omega arith, e))

-- an element of a mapped list is the image of one
pub Contains-from_map : {A B : Type 0} (f : A → B) (xs : List A) (y : B) → Contains (map f xs) y → (x : A) × Contains xs x × (f x ≡ y)
Contains-from_map f [] y (k, l, e) = absurd (omega arith)
Contains-from_map f (x ∷ xs) y (zero, l, e) = (x, Contains-here x xs, e)
Contains-from_map f (x ∷ xs) y (suc k, l, e) =
    let r = Contains-from_map f xs y (k, omega arith, e) in
    (r.0, Contains-later x xs r.0 r.1, r.2)

filter_yes : {A : Type 0} (p : A → Bool) (y : A) (ys : List A) → p y ≡ true → filter p (y ∷ ys) ≡ y ∷ filter p ys
filter_yes p y ys e = ap (λ b. cond b (y ∷ filter p ys) (filter p ys)) e

filter_no : {A : Type 0} (p : A → Bool) (y : A) (ys : List A) → p y ≡ false → filter p (y ∷ ys) ≡ filter p ys
filter_no p y ys e = ap (λ b. cond b (y ∷ filter p ys) (filter p ys)) e

pub Contains-filter : {A : Type 0} (p : A → Bool) (xs : List A) (x : A) → p x ≡ true → Contains xs x → Contains (filter p xs) x
Contains-filter p [] x h (k, l, e) = absurd (omega arith)
Contains-filter p (y ∷ ys) x h (zero, l, e) =
    subst (λ zs. Contains zs x) (sym (filter_yes p y ys (ap p e ∙ h))) (zero, omega arith, e)
Contains-filter p (y ∷ ys) x h (suc k, l, e) =
    let rest = Contains-filter p ys x h (k, omega arith, e) in
    elim (cases_Bool (p y)) [
      | inl t ↦ subst (λ zs. Contains zs x) (sym (filter_yes p y ys t)) (Contains-later y (filter p ys) x rest)
      | inr f ↦ subst (λ zs. Contains zs x) (sym (filter_no p y ys f)) rest
    ]

-- what a filter keeps was there, and passes
pub Contains-from_filter : {A : Type 0} (p : A → Bool) (xs : List A) (x : A) → Contains (filter p xs) x → Contains xs x × (p x ≡ true)
Contains-from_filter p [] x (k, l, e) = absurd (omega arith)
Contains-from_filter p (y ∷ ys) x h =
    elim (cases_Bool (p y)) [
      | inl t ↦
          elim (Contains-cons_cases y (filter p ys) x (subst (λ zs. Contains zs x) (filter_yes p y ys t) h)) [
            | inl e ↦ (subst (Contains (y ∷ ys)) e (Contains-here y ys), sym (ap p e) ∙ t)
            | inr i ↦ let r = Contains-from_filter p ys x i in (Contains-later y ys x r.0, r.1)
          ]
      | inr f ↦
          let r = Contains-from_filter p ys x (subst (λ zs. Contains zs x) (filter_no p y ys f) h) in
          (Contains-later y ys x r.0, r.1)
    ]

pub Contains-flat_map : {X A : Type 0} (f : X → List A) (xs : List X) (i : X) (x : A) → Contains xs i → Contains (f i) x → Contains (flat_map f xs) x
Contains-flat_map f [] i x (k, l, e) h = absurd (omega arith)
Contains-flat_map f (y ∷ ys) i x (zero, l, e) h =
    Contains-append_left (f y) (flat_map f ys) x (subst (λ j. Contains (f j) x) (sym e) h)
Contains-flat_map f (y ∷ ys) i x (suc k, l, e) h =
    Contains-append_right (f y) (flat_map f ys) x (Contains-flat_map f ys i x (k, omega arith, e) h)

-- an element of joined lists is an element of one of them
pub Contains-from_flat_map : {X A : Type 0} (f : X → List A) (xs : List X) (x : A) → Contains (flat_map f xs) x → (i : X) × Contains xs i × Contains (f i) x
Contains-from_flat_map f [] x (k, l, e) = absurd (omega arith)
Contains-from_flat_map f (y ∷ ys) x h =
    elim (Contains-append_cases (f y) (flat_map f ys) x h) [
      | inl i ↦ (y, Contains-here y ys, i)
      | inr i ↦ let r = Contains-from_flat_map f ys x i in (r.0, Contains-later y ys r.0 r.1, r.2)
    ]

-- what holds of each element of each of the lists holds of each of the joined list
pub All-flat_map : {X A : Type 0} (P : A → Type 0) (f : X → List A) (xs : List X) → All (λ i. All P (f i)) xs → All P (flat_map f xs)
All-flat_map P f [] h = All-nil P
All-flat_map P f (y ∷ ys) h =
    All-append P (f y) (flat_map f ys) (All-head (λ i. All P (f i)) y ys h)
    (All-flat_map P f ys (All-tail (λ i. All P (f i)) y ys h))

-- a list that has no element is empty
pub nil-from_none : {A : Type 0} (xs : List A) → ((x : A) → Contains xs x → ⊥) → xs ≡ []
nil-from_none [] h = refl
nil-from_none (x ∷ xs) h = absurd (h x (Contains-here x xs))

pub Contains-range : (n k : ℕ) → k < n → Contains (range_with_len 0 n) k
Contains-range n k h = (k, omega (arith, length-range_with_len 0 n), get_or-range_with_len 0 n k k h ∙ zero-add k)
