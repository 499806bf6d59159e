-- Strictly sorted lists: what is found in them first, and that their elements determine them.
use Rattle.std.proofs.Common.{◌≡◌, ◌∙◌, Bool, true, false, cond, List, [], ◌∷◌, inl, inr, map, None, Some, ap, sym, refl, subst}
use Rattle.std.specs.Prelude.{find}
use Rattle.std.specs.List.{All, Contains, filter}
use Rattle.std.specs.List.Sorted.{IsStrictlySortedBy}
use Rattle.std.specs.declared.cmp.Ordering.{Ordering}
use Rattle.std.specs.declared.cmp.Ordering.TheVariants.{Less, Equal}
use Rattle.std.specs.Cmp.{IsTotalOrder}
use Rattle.std.proofs.lemmas.Bool.{cases_Bool}
use Rattle.std.proofs.lemmas.Cmp.{tied_itself}
use Rattle.std.proofs.lemmas.List.Elements.{All-contains, All-from_recursion, recursion_from_All, All-filter, All-map}
use Rattle.std.proofs.lemmas.Map.Keys.{sorted_head, sorted_tail}
use Rattle.list_laws.proofs.Elements.{All-map_back}
use Rattle.list_laws.proofs.Membership.{Contains-nil, Contains-here, Contains-later, Contains-cons_cases, Contains-map}

pub sorted_nil : {K : Type 0} (R : K → K → Ordering) → IsStrictlySortedBy R []
unfolding IsStrictlySortedBy
sorted_nil R = tt

-- a list goes on sorted where its first element is before all others
pub sorted_cons : {K : Type 0} (R : K → K → Ordering) (x : K) (xs : List K) → All (λ y. R x y ≡ Less) xs → IsStrictlySortedBy R xs → IsStrictlySortedBy R (x ∷ xs)
unfolding IsStrictlySortedBy
sorted_cons R x xs h s = (recursion_from_All (λ y. R x y ≡ Less) xs h, s)

-- the first element is before each other
pub first_before : {K : Type 0} (R : K → K → Ordering) (x : K) (xs : List K) → IsStrictlySortedBy R (x ∷ xs) → All (λ y. R x y ≡ Less) xs
first_before R x xs s = All-from_recursion (λ y. R x y ≡ Less) xs (sorted_head R x xs s)

module _ {K : Type 0} {R : K → K → Ordering} (o : IsTotalOrder R) where
  pub not_before_itself : (x : K) → R x x ≡ Less → ⊥
  not_before_itself x h = let e : Less ≡ Equal = sym h ∙ tied_itself o x in cc

  pub not_both_ways : (x y : K) → R x y ≡ Less → R y x ≡ Less → ⊥
  not_both_ways x y h g = not_before_itself x (o.trans x y x h g)

  same_first : (x : K) (xs : List K) (y : K) (ys : List K) → IsStrictlySortedBy R (x ∷ xs) → IsStrictlySortedBy R (y ∷ ys) → Contains (y ∷ ys) x → Contains (x ∷ xs) y → x ≡ y
  same_first x xs y ys s t h g =
      elim (Contains-cons_cases y ys x h) [
        | inl e ↦ sym e
        | inr i ↦ elim (Contains-cons_cases x xs y g) [
          | inl e ↦ e
          | inr j ↦ absurd (not_both_ways x y (All-contains (λ z. R x z ≡ Less) xs y (first_before R x xs s) j) (All-contains (λ z. R y z ≡ Less) ys x (first_before R y ys t) i))
        ]
      ]

  of_rest : (x : K) (xs : List K) (ys : List K) → IsStrictlySortedBy R (x ∷ xs) → ((z : K) → Contains (x ∷ xs) z → Contains (x ∷ ys) z) → (z : K) → Contains xs z → Contains ys z
  of_rest x xs ys s h z i =
      elim (Contains-cons_cases x ys z (h z (Contains-later x xs z i))) [
        | inl e ↦ absurd (not_before_itself x (subst (λ w. R x w ≡ Less) (sym e) (All-contains (λ w. R x w ≡ Less) xs z (first_before R x xs s) i)))
        | inr j ↦ j
      ]

  -- two strictly sorted lists with the same elements are the same
  pub one_sorted_list : (xs ys : List K) → IsStrictlySortedBy R xs → IsStrictlySortedBy R ys → ((z : K) → Contains xs z → Contains ys z) → ((z : K) → Contains ys z → Contains xs z) → xs ≡ ys
  one_sorted_list [] [] s t h g = refl
  one_sorted_list [] (y ∷ ys) s t h g = absurd (Contains-nil y (g y (Contains-here y ys)))
  one_sorted_list (x ∷ xs) [] s t h g = absurd (Contains-nil x (h x (Contains-here x xs)))
  one_sorted_list (x ∷ xs) (y ∷ ys) s t h g =
      let e : x ≡ y = same_first x xs y ys s t (h x (Contains-here x xs)) (g y (Contains-here y ys)) in
      let h' : (z : K) → Contains (x ∷ xs) z → Contains (x ∷ ys) z = λ z i. subst (λ w. Contains (w ∷ ys) z) (sym e) (h z i) in
      let g' : (z : K) → Contains (x ∷ ys) z → Contains (x ∷ xs) z = λ z i. g z (subst (λ w. Contains (w ∷ ys) z) e i) in
      let t' : IsStrictlySortedBy R (x ∷ ys) = subst (λ w. IsStrictlySortedBy R (w ∷ ys)) (sym e) t in
      λ i. e i ∷ one_sorted_list xs ys (sorted_tail R x xs s) (sorted_tail R y ys t) (of_rest x xs ys s h') (of_rest x ys xs t' g') i

  -- what is found first passes, and none that passes has a key before its key
  pub found_first : {A : Type 0} (f : A → K) (p : A → Bool) (xs : List A) (x : A) → IsStrictlySortedBy R (map f xs) → find p xs ≡ Some x → Contains xs x × (p x ≡ true) × ((y : A) → Contains xs y → p y ≡ true → R (f y) (f x) ≡ Less → ⊥)
  found_first f p [] x s e = cc
  found_first {A} f p (y ∷ ys) x s e =
      elim (cases_Bool (p y)) [
        | inl t ↦
            let is : Some y ≡ Some x = sym (ap (λ b. cond b (Some y) (find p ys)) t) ∙ e in
            let same : y ≡ x = cc in
            (subst (Contains (y ∷ ys)) same (Contains-here y ys), sym (ap p same) ∙ t, λ z i q l. least_here same z i l)
        | inr n ↦
            let later : find p ys ≡ Some x = sym (ap (λ b. cond b (Some y) (find p ys)) n) ∙ e in
            let r = found_first f p ys x (sorted_tail R (f y) (map f ys) s) later in
            (Contains-later y ys x r.0, r.1, λ z i q l. least_later n r.2 z i q l)
      ]
    where
      least_here : y ≡ x → (z : A) → Contains (y ∷ ys) z → R (f z) (f x) ≡ Less → ⊥
      least_here same z i l =
          let l' : R (f z) (f y) ≡ Less = subst (λ w. R (f z) (f w) ≡ Less) (sym same) l in
          elim (Contains-cons_cases y ys z i) [
            | inl e ↦ not_before_itself (f y) (subst (λ w. R (f w) (f y) ≡ Less) (sym e) l')
            | inr j ↦ not_both_ways (f y) (f z) (All-contains (λ w. R (f y) w ≡ Less) (map f ys) (f z) (first_before R (f y) (map f ys) s) (Contains-map f ys z j)) l'
          ]

      least_later : p y ≡ false → ((z : A) → Contains ys z → p z ≡ true → R (f z) (f x) ≡ Less → ⊥) → (z : A) → Contains (y ∷ ys) z → p z ≡ true → R (f z) (f x) ≡ Less → ⊥
      least_later n least z i q l =
          elim (Contains-cons_cases y ys z i) [
            | inl e ↦ let c : true ≡ false = sym q ∙ sym (ap p e) ∙ n in cc
            | inr j ↦ least z j q l
          ]

-- where nothing is found, no element passes
pub found_none : {A : Type 0} (p : A → Bool) (xs : List A) (y : A) → find p xs ≡ None → Contains xs y → p y ≡ true → ⊥
found_none p [] y e i q = Contains-nil y i
found_none p (x ∷ xs) y e i q =
    elim (cases_Bool (p x)) [
      | inl t ↦ let c : Some x ≡ None = sym (ap (λ b. cond b (Some x) (find p xs)) t) ∙ e in cc
      | inr n ↦
          elim (Contains-cons_cases x xs y i) [
            | inl s ↦ let c : true ≡ false = sym q ∙ sym (ap p s) ∙ n in cc
            | inr j ↦ found_none p xs y (sym (ap (λ b. cond b (Some x) (find p xs)) n) ∙ e) j q
          ]
    ]

-- sorted keys stay sorted where a filter leaves some out
pub sorted_keys-filter : {A K : Type 0} (R : K → K → Ordering) (f : A → K) (p : A → Bool) (xs : List A) → IsStrictlySortedBy R (map f xs) → IsStrictlySortedBy R (map f (filter p xs))
sorted_keys-filter R f p [] s = s
sorted_keys-filter R f p (x ∷ xs) s =
    let rest = sorted_keys-filter R f p xs (sorted_tail R (f x) (map f xs) s) in
    elim (cases_Bool (p x)) [
      | inl t ↦
          subst (λ l. IsStrictlySortedBy R (map f l)) (sym (ap (λ b. cond b (x ∷ filter p xs) (filter p xs)) t))
          (sorted_cons R (f x) (map f (filter p xs))
          (All-map (λ k. R (f x) k ≡ Less) f (filter p xs)
          (All-filter p (λ y. R (f x) (f y) ≡ Less) xs (All-map_back (λ k. R (f x) k ≡ Less) f xs (first_before R (f x) (map f xs) s))))
          rest)
      | inr n ↦ subst (λ l. IsStrictlySortedBy R (map f l)) (sym (ap (λ b. cond b (x ∷ filter p xs) (filter p xs)) n)) rest
    ]
