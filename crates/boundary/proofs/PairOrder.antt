-- The pair order is sorted, and has exactly the pairs of a surface.
use Rattle.std.proofs.Common.{◌≡◌, ◌∙◌, ℕ, ◌+◌, ◌<◌, true, [], ◌∷◌, map, length, get_or, Option, Some, None, ap, sym, refl, arith, subst}
use Rattle.std.specs.Prelude.{slice_get, IfSome}
use Rattle.std.specs.List.{Contains, range_with_len}
use Rattle.std.specs.List.Sorted.{IsStrictlySortedBy}
use Rattle.std.specs.Ordering.{nat_cmp, ordering_then}
use Rattle.std.specs.declared.cmp.Ordering.{Ordering}
use Rattle.std.specs.declared.cmp.Ordering.TheVariants.{Less}
use Rattle.std.specs.Cmp.{IsTotalOrder}
use Rattle.std.proofs.lemmas.Cmp.{nat_cmp_total, on_total, then_total, tied_itself}
use Rattle.std.proofs.lemmas.List.Elements.{All-nil, All-cons, All-contains, Contains-get_or}
use Rattle.std.proofs.lemmas.List.FromFn.{get_or-range_with_len, length-range_with_len}
use Rattle.std.proofs.lemmas.List.Kept.{IsStrictlySortedBy-filter}
use Rattle.std.proofs.lemmas.Option.{get_or_from_slice_get, slice_get_within}
use Rattle.list_laws.proofs.Membership.{Contains-filter, Contains-flat_map, Contains-from_filter, Contains-from_flat_map, Contains-from_map, Contains-here, Contains-later, Contains-map, Contains-range}
use Rattle.list_laws.proofs.StrictlySorted.{sorted_cons, sorted_nil}
use Rattle.list_laws.proofs.SortedJoins.{one_place, sorted-flat_map, sorted-map, sorted-range_with_len}
use Rattle.boundary.specs.declared.pairs.Pair.{Pair}
use Rattle.boundary.specs.declared.pairs.PairKind.{PairKind}
use Rattle.boundary.specs.declared.pairs.PairKind.TheVariants.{VE, VT, EE, ET}
use Rattle.boundary.specs.Calls.PairWalk.{pairs_after}
use Rattle.boundary.specs.Pairs.{IsPair, counts, first_parts, kinds, pair_of, pair_order, pairs_of, pairs_of_kind, all_pairs, rank, second_parts}
use Rattle.boundary.specs.SortedLists.{IsSortedListOf}
use Rattle.boundary.specs.Surface.{SurfaceLists}
use Rattle.boundary.proofs.PairStands.{next_of_split, place_of_split, stands}

pair_order_total : IsTotalOrder pair_order
pair_order_total =
    then_total (on_total (λ (p : Pair). rank p.kind) nat_cmp_total)
    (then_total (on_total (λ (p : Pair). p.a) nat_cmp_total) (on_total (λ (p : Pair). p.b) nat_cmp_total))

-- where the kinds tie, the first parts decide, and where these tie the second parts
by_second : (kind : PairKind) (a b c : ℕ) → nat_cmp b c ≡ Less → pair_order (pair_of kind a b) (pair_of kind a c) ≡ Less
by_second kind a b c h =
    ap (λ o. ordering_then o (ordering_then (nat_cmp a a) (nat_cmp b c))) (tied_itself nat_cmp_total (rank kind))
    ∙ ap (λ o. ordering_then o (nat_cmp b c)) (tied_itself nat_cmp_total a)
    ∙ h

by_first : (kind : PairKind) (a c : ℕ) (p q : Pair) → nat_cmp a c ≡ Less → p.kind ≡ kind → q.kind ≡ kind → p.a ≡ a → q.a ≡ c → pair_order p q ≡ Less
by_first kind a c p q h pk qk pa qa =
    (λ i. ordering_then (nat_cmp (rank (pk i)) (rank (qk i))) (ordering_then (nat_cmp (pa i) (qa i)) (nat_cmp p.b q.b)))
    ∙ ap (λ o. ordering_then o (ordering_then (nat_cmp a c) (nat_cmp p.b q.b))) (tied_itself nat_cmp_total (rank kind))
    ∙ ap (λ o. ordering_then o (nat_cmp p.b q.b)) h

by_kind : (k l : PairKind) (p q : Pair) → nat_cmp (rank k) (rank l) ≡ Less → p.kind ≡ k → q.kind ≡ l → pair_order p q ≡ Less
by_kind k l p q h pk ql =
    (λ i. ordering_then (nat_cmp (rank (pk i)) (rank (ql i))) (ordering_then (nat_cmp p.a q.a) (nat_cmp p.b q.b)))
    ∙ ap (λ o. ordering_then o (ordering_then (nat_cmp p.a q.a) (nat_cmp p.b q.b))) h

below : (n k : ℕ) → Contains (range_with_len 0 n) k → k < n
below n k (i, l, e) =
    omega (arith, l, length-range_with_len 0 n, sym e ∙ get_or-range_with_len 0 n i k (omega (arith, l, length-range_with_len 0 n)))

-- a pair of a kind with both parts in range
record InAllPairs (kind : PairKind) (firsts seconds : ℕ) (p : Pair) : Type 0 where
  kind_is : p.kind ≡ kind
  first : p.a < firsts
  second : p.b < seconds

of_row : (kind : PairKind) (seconds a : ℕ) (p : Pair) → Contains (map (pair_of kind a) (range_with_len 0 seconds)) p → (b : ℕ) × (b < seconds) × (pair_of kind a b ≡ p)
of_row kind seconds a p h =
    let r = Contains-from_map (pair_of kind a) (range_with_len 0 seconds) p h in
    (r.0, below seconds r.0 r.1, r.2)

of_all_pairs : (kind : PairKind) (firsts seconds : ℕ) (p : Pair) → Contains (all_pairs kind firsts seconds) p → InAllPairs kind firsts seconds p
of_all_pairs kind firsts seconds p h =
    let r = Contains-from_flat_map (λ a. map (pair_of kind a) (range_with_len 0 seconds)) (range_with_len 0 firsts) p h in
    let o = of_row kind seconds r.0 p r.2 in
    record {
      kind_is = sym (ap (λ (q : Pair). q.kind) o.2);
      first = subst (λ a. a < firsts) (ap (λ (q : Pair). q.a) o.2) (below firsts r.0 r.1);
      second = subst (λ b. b < seconds) (ap (λ (q : Pair). q.b) o.2) o.1;
    }

in_all_pairs : (p : Pair) (firsts seconds : ℕ) → p.a < firsts → p.b < seconds → Contains (all_pairs p.kind firsts seconds) p
in_all_pairs p firsts seconds a b =
    Contains-flat_map (λ k. map (pair_of p.kind k) (range_with_len 0 seconds)) (range_with_len 0 firsts) p.a p (Contains-range firsts p.a a)
    (Contains-map (pair_of p.kind p.a) (range_with_len 0 seconds) p.b (Contains-range seconds p.b b))

all_pairs_sorted : (kind : PairKind) (firsts seconds : ℕ) → IsStrictlySortedBy pair_order (all_pairs kind firsts seconds)
all_pairs_sorted kind firsts seconds =
    sorted-flat_map nat_cmp pair_order (λ a. map (pair_of kind a) (range_with_len 0 seconds)) (range_with_len 0 firsts)
    (sorted-range_with_len 0 firsts)
    (λ a. sorted-map nat_cmp pair_order (pair_of kind a) (range_with_len 0 seconds) (λ b c h. by_second kind a b c h) (sorted-range_with_len 0 seconds))
    (λ a c p q h i j.
    let o = of_row kind seconds a p i in
    let r = of_row kind seconds c q j in
    by_first kind a c p q h (sym (ap (λ (x : Pair). x.kind) o.2)) (sym (ap (λ (x : Pair). x.kind) r.2)) (sym (ap (λ (x : Pair). x.a) o.2)) (sym (ap (λ (x : Pair). x.a) r.2)))

of_kind : (s : SurfaceLists) (kind : PairKind) (p : Pair) → Contains (pairs_of_kind s kind) p → InAllPairs kind (length (first_parts s kind)) (length (second_parts s kind)) p × (counts s p ≡ true)
of_kind s kind p h =
    let m = length (first_parts s kind) in
    let n = length (second_parts s kind) in
    let r = Contains-from_filter (counts s) (all_pairs kind m n) p h in
    (of_all_pairs kind m n p r.0, r.1)

-- the kinds rise
kinds_sorted : IsStrictlySortedBy (λ k l. nat_cmp (rank k) (rank l)) kinds
kinds_sorted =
    let R : PairKind → PairKind → Ordering = λ k l. nat_cmp (rank k) (rank l) in
    sorted_cons R VE (VT ∷ EE ∷ ET ∷ []) (All-cons (λ k. R VE k ≡ Less) VT (EE ∷ ET ∷ []) refl (All-cons (λ k. R VE k ≡ Less) EE (ET ∷ []) refl (All-cons (λ k. R VE k ≡ Less) ET [] refl (All-nil (λ k. R VE k ≡ Less)))))
    (sorted_cons R VT (EE ∷ ET ∷ []) (All-cons (λ k. R VT k ≡ Less) EE (ET ∷ []) refl (All-cons (λ k. R VT k ≡ Less) ET [] refl (All-nil (λ k. R VT k ≡ Less))))
    (sorted_cons R EE (ET ∷ []) (All-cons (λ k. R EE k ≡ Less) ET [] refl (All-nil (λ k. R EE k ≡ Less)))
    (sorted_cons R ET [] (All-nil (λ k. R ET k ≡ Less)) (sorted_nil R))))

each_kind : (kind : PairKind) → Contains kinds kind
each_kind VE = Contains-here VE (VT ∷ EE ∷ ET ∷ [])
each_kind VT = Contains-later VE (VT ∷ EE ∷ ET ∷ []) VT (Contains-here VT (EE ∷ ET ∷ []))
each_kind EE = Contains-later VE (VT ∷ EE ∷ ET ∷ []) EE (Contains-later VT (EE ∷ ET ∷ []) EE (Contains-here EE (ET ∷ [])))
each_kind ET = Contains-later VE (VT ∷ EE ∷ ET ∷ []) ET (Contains-later VT (EE ∷ ET ∷ []) ET (Contains-later EE (ET ∷ []) ET (Contains-here ET [])))

-- the pair order is the sorted list of exactly the pairs
pub pairs_sorted : (s : SurfaceLists) → IsSortedListOf pair_order (IsPair s) (pairs_of s)
pairs_sorted s = record {
  sorted =
      sorted-flat_map (λ k l. nat_cmp (rank k) (rank l)) pair_order (pairs_of_kind s) kinds kinds_sorted
      (λ kind. IsStrictlySortedBy-filter pair_order (counts s) (all_pairs kind (length (first_parts s kind)) (length (second_parts s kind))) (all_pairs_sorted kind (length (first_parts s kind)) (length (second_parts s kind))))
      (λ k l p q h i j. let a = of_kind s k p i in let b = of_kind s l q j in by_kind k l p q h a.0.kind_is b.0.kind_is);
  each = λ k d l. is_pair (get_or (pairs_of s) k d) (Contains-get_or (pairs_of s) k d l);
  all = λ p h.
      Contains-flat_map (pairs_of_kind s) kinds p.kind p (each_kind p.kind)
      (Contains-filter (counts s) (all_pairs p.kind (length (first_parts s p.kind)) (length (second_parts s p.kind))) p h.counts_there
      (in_all_pairs p (length (first_parts s p.kind)) (length (second_parts s p.kind)) h.first h.second));
}
  where
    is_pair : (p : Pair) → Contains (pairs_of s) p → IsPair s p
    is_pair p h =
        let r = Contains-from_flat_map (pairs_of_kind s) kinds p h in
        let o = of_kind s r.0 p r.2 in
        record {
          first = subst (λ k. p.a < length (first_parts s k)) (sym o.0.kind_is) o.0.first;
          second = subst (λ k. p.b < length (second_parts s k)) (sym o.0.kind_is) o.0.second;
          counts_there = o.1;
        }

-- an element that is read is a pair
pub read_pair : (s : SurfaceLists) (k : ℕ) (result : Option Pair) → result ≡ slice_get (pairs_of s) k → IfSome result (IsPair s)
read_pair s k None e = tt
read_pair s k (Some p) e =
    All-contains (IsPair s) (pairs_of s) p (pairs_sorted s).each
    (k, slice_get_within (pairs_of s) k p (sym e), get_or_from_slice_get (pairs_of s) k p p (sym e))

-- the first of what stands after a pair follows it
pub next_follows : (s : SurfaceLists) (p : Pair) (result : Option Pair) → IsPair s p → result ≡ slice_get (pairs_after s p) 0 → (k : ℕ) → slice_get (pairs_of s) k ≡ Some p → result ≡ slice_get (pairs_of s) (k + 1)
next_follows s p result h e k at =
    let split = stands s p h in
    let here : slice_get (pairs_of s) (length split.before) ≡ Some p = ap (λ l. slice_get l (length split.before)) split.is ∙ place_of_split split.before p (pairs_after s p) in
    let same : length split.before ≡ k = one_place pair_order_total (pairs_of s) p (length split.before) k (pairs_sorted s).sorted here at in
    e
    ∙ sym (next_of_split split.before p (pairs_after s p))
    ∙ sym (ap (λ l. slice_get l (length split.before + 1)) split.is)
    ∙ ap (λ j. slice_get (pairs_of s) (j + 1)) same

-- and is a pair
pub next_is_pair : (s : SurfaceLists) (p : Pair) (result : Option Pair) → IsPair s p → result ≡ slice_get (pairs_after s p) 0 → IfSome result (IsPair s)
next_is_pair s p result h e =
    let split = stands s p h in
    read_pair s (length split.before + 1) result
    (e ∙ sym (next_of_split split.before p (pairs_after s p)) ∙ sym (ap (λ l. slice_get l (length split.before + 1)) split.is))
