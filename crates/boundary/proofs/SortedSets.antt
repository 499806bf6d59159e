-- Each list has the sorted list of exactly its elements.
use Rattle.std.proofs.Common.{◌≡◌, ◌∙◌, List, [], ◌∷◌, inl, inr, ap, sym, refl, subst}
use Rattle.std.specs.List.{Contains}
use Rattle.std.specs.List.Sorted.{IsStrictlySortedBy}
use Rattle.std.specs.declared.cmp.Ordering.{Ordering}
use Rattle.std.specs.declared.cmp.Ordering.TheVariants.{Less, Equal, Greater}
use Rattle.std.specs.Ordering.{ordering_reverse}
use Rattle.std.specs.Cmp.{IsTotalOrder}
use Rattle.std.proofs.lemmas.List.Elements.{All-nil, All-cons, All-contains, All-contains_itself, All-weaker}
use Rattle.std.proofs.lemmas.Map.Keys.{sorted_tail}
use Rattle.list_laws.proofs.Membership.{Contains-cons_cases, Contains-here, Contains-later}
use Rattle.list_laws.proofs.StrictlySorted.{first_before, sorted_cons, sorted_nil}
use Rattle.boundary.specs.SortedLists.{IsSortedListOf}

module _ {K : Type 0} {R : K → K → Ordering} (o : IsTotalOrder R) (ties : (x y : K) → R x y ≡ Equal → x ≡ y) where
  -- what holds of one element, and of each of a list, holds of each of the list that begins with it
  with_first : (P : K → Type 0) (x : K) (xs : List K) → P x → ((y : K) → Contains xs y → P y) → (y : K) → Contains (x ∷ xs) y → P y
  with_first P x xs here later y i =
      elim (Contains-cons_cases x xs y i) [
        | inl e ↦ subst P e here
        | inr j ↦ later y j
      ]

  -- one element more, at its place unless it stands there
  one_more : (x : K) (zs : List K) → IsStrictlySortedBy R zs → (ys : List K) × IsSortedListOf R (Contains (x ∷ zs)) ys
  one_more x [] s = (
    x ∷ [],
    record {
      sorted = sorted_cons R x [] (All-nil (λ y. R x y ≡ Less)) s;
      each = All-contains_itself (x ∷ []);
      all = λ y i. i;
    },
  )
  one_more x (z ∷ zs) s = by (R x z) refl (one_more x zs (sorted_tail R z zs s))
    where
      by : (way : Ordering) → R x z ≡ way → (ys : List K) × IsSortedListOf R (Contains (x ∷ zs)) ys → (ys : List K) × IsSortedListOf R (Contains (x ∷ z ∷ zs)) ys
      by Less e rest = (
        x ∷ z ∷ zs,
        record {
          sorted = sorted_cons R x (z ∷ zs)
              (All-cons (λ y. R x y ≡ Less) z zs e
              (All-weaker (λ y. R z y ≡ Less) (λ y. R x y ≡ Less) (λ y h. o.trans x z y e h) zs (first_before R z zs s)))
              s;
          each = All-contains_itself (x ∷ z ∷ zs);
          all = λ y i. i;
        },
      )
      by Equal e rest = (
        z ∷ zs,
        record {
          sorted = s;
          each = All-weaker (Contains (z ∷ zs)) (Contains (x ∷ z ∷ zs)) (Contains-later x (z ∷ zs)) (z ∷ zs) (All-contains_itself (z ∷ zs));
          all = with_first (Contains (z ∷ zs)) x (z ∷ zs) (subst (Contains (z ∷ zs)) (sym (ties x z e)) (Contains-here z zs)) (λ y i. i);
        },
      )
      by Greater e rest =
          let before : R z x ≡ Less = o.antisymm z x ∙ ap ordering_reverse e in (
            z ∷ rest.0,
            record {
              sorted = sorted_cons R z rest.0
                  (All-weaker (Contains (x ∷ zs)) (λ y. R z y ≡ Less)
                  (with_first (λ y. R z y ≡ Less) x zs before (λ y i. All-contains (λ w. R z w ≡ Less) zs y (first_before R z zs s) i))
                  rest.0 rest.1.each)
                  rest.1.sorted;
              each = All-cons (Contains (x ∷ z ∷ zs)) z rest.0 (Contains-later x (z ∷ zs) z (Contains-here z zs))
                  (All-weaker (Contains (x ∷ zs)) (Contains (x ∷ z ∷ zs))
                  (with_first (Contains (x ∷ z ∷ zs)) x zs (Contains-here x (z ∷ zs)) (λ y i. Contains-later x (z ∷ zs) y (Contains-later z zs y i)))
                  rest.0 rest.1.each);
              all = with_first (Contains (z ∷ rest.0)) x (z ∷ zs) (Contains-later z rest.0 x (rest.1.all x (Contains-here x zs)))
                  (with_first (Contains (z ∷ rest.0)) z zs (Contains-here z rest.0)
                  (λ y i. Contains-later z rest.0 y (rest.1.all y (Contains-later x zs y i))));
            },
          )

  -- each list has the sorted list of exactly its elements
  pub sorted_set : (xs : List K) → (zs : List K) × IsSortedListOf R (Contains xs) zs
  sorted_set [] = ([], record { sorted = sorted_nil R; each = All-nil (Contains []); all = λ y i. i })
  sorted_set (x ∷ xs) =
      let rest = sorted_set xs in
      let more = one_more x rest.0 rest.1.sorted in (
        more.0,
        record {
          sorted = more.1.sorted;
          each = All-weaker (Contains (x ∷ rest.0)) (Contains (x ∷ xs))
              (with_first (Contains (x ∷ xs)) x rest.0 (Contains-here x xs) (λ y i. Contains-later x xs y (All-contains (Contains xs) rest.0 y rest.1.each i)))
              more.0 more.1.each;
          all = with_first (Contains more.0) x xs (more.1.all x (Contains-here x rest.0))
              (λ y i. more.1.all y (Contains-later x rest.0 y (rest.1.all y i)));
        },
      )
