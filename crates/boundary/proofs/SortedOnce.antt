-- A list that is sorted and freed of doubles.
use Rattle.std.proofs.Common.{◌≡◌, ℕ, Bool, true, List, [], subst, sym}
use Rattle.std.specs.Prelude.{nat_eq}
use borrow.Author.Tests.{eqb-true}
use Rattle.std.specs.List.{Contains, dedup}
use Rattle.std.specs.List.Retain.{IsFiltered, DiffersFromLast}
use Rattle.std.specs.List.Sorted.{IsPermutation, IsSorted}
use Rattle.std.specs.declared.cmp.Ordering.{Ordering}
use Rattle.std.specs.Ordering.{eq_by_cmp, nat_cmp}
use Rattle.std.specs.Cmp.{IsTotalOrder, unsigned_ties}
use Rattle.std.specs.Cmp.Lexicographic.{pointwise, texts_ties}
use Rattle.std.proofs.lemmas.Cmp.{nat_cmp_total, nat_eq_equiv, nat_list_eq_equiv}
use Rattle.std.specs.Cmp.{IsEquivalence}
use Rattle.std.proofs.lemmas.List.Elements.{All-contains_itself}
use Rattle.std.proofs.lemmas.List.Filters.{dedup_is}
use Rattle.std.proofs.lemmas.List.Kept.{Contains-dedup, Contains-from_dedup, IsStrictlySortedBy-dedup}
use Rattle.std.proofs.lemmas.List.Sorted.{Contains-permutation, IsPermutation-sym}
use Rattle.boundary.specs.Faces.{node_order}
use Rattle.boundary.specs.SortedLists.{IsSortedListOf}
use Rattle.boundary.proofs.Order.{is_total, same_nodes}

sorted_once : {A : Type 0} (order : A → A → Ordering) (same : A → A → Bool) → IsTotalOrder order → IsEquivalence same → ((x y : A) → same x y ≡ eq_by_cmp order x y) → ((x y : A) → same x y ≡ true → x ≡ y) → (xs ys zs : List A) → IsPermutation xs ys → IsSorted order ys → zs ≡ dedup same ys → IsSortedListOf order (Contains xs) zs
sorted_once order same total equivalence ties exact xs ys zs moved sorted is =
    subst (IsSortedListOf order (Contains xs)) (sym is)
    (record {
      sorted = IsStrictlySortedBy-dedup total ties ys sorted;
      each = λ k d l. Contains-permutation ys xs _ (IsPermutation-sym xs ys moved) (Contains-from_dedup same ys _ (All-contains_itself (dedup same ys) k d l));
      all = λ x h. Contains-dedup equivalence exact ys x (Contains-permutation xs ys x moved h);
    })

pub lists_once : (xs ys zs : List (List ℕ)) → IsPermutation xs ys → IsSorted node_order ys → IsFiltered (DiffersFromLast (pointwise nat_eq)) [] ys zs → IsSortedListOf node_order (Contains xs) zs
lists_once xs ys zs moved sorted filtered =
    sorted_once node_order (pointwise nat_eq) is_total nat_list_eq_equiv texts_ties same_nodes xs ys zs moved sorted (dedup_is (pointwise nat_eq) ys zs filtered)

pub numbers_once : (xs ys zs : List ℕ) → IsPermutation xs ys → IsSorted nat_cmp ys → IsFiltered (DiffersFromLast nat_eq) [] ys zs → IsSortedListOf nat_cmp (Contains xs) zs
numbers_once xs ys zs moved sorted filtered =
    sorted_once nat_cmp nat_eq nat_cmp_total nat_eq_equiv unsigned_ties (λ x y. eqb-true x y) xs ys zs moved sorted (dedup_is nat_eq ys zs filtered)
