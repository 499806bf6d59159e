-- Strictly sorted lists that are joined, mapped or counted off, and the one place of an element.
use Rattle.std.proofs.Common.{◌≡◌, ℕ, zero, suc, ◌+◌, ◌<◌, cond, List, [], ◌∷◌, ◌++◌, inl, inr, map, length, get_or, Some, ap, subst, arith}
use Rattle.std.specs.Prelude.{slice_get, ◌==◌}
use Rattle.std.specs.List.{Contains, flat_map, range_with_len}
use Rattle.std.specs.List.Sorted.{IsStrictlySortedBy}
use Rattle.std.specs.declared.cmp.Ordering.{Ordering}
use Rattle.std.specs.declared.cmp.Ordering.TheVariants.{Less, Equal, Greater}
use Rattle.std.specs.Cmp.{IsTotalOrder}
use Rattle.std.specs.Ordering.{nat_cmp}
use Rattle.std.proofs.lemmas.Bool.{cases_lt, lt-ltb}
use Rattle.std.proofs.lemmas.List.Elements.{All-append, All-contains, All-map, All-weaker, Contains-get_or}
use Rattle.std.proofs.lemmas.List.FromFn.{get_or-range_with_len, length-range_with_len}
use Rattle.std.proofs.lemmas.Map.Keys.{Less-from_sorted, sorted_tail}
use Rattle.std.proofs.lemmas.Option.{get_or_from_slice_get, slice_get_within}
use Rattle.list_laws.proofs.Membership.{Contains-from_flat_map, Contains-here, Contains-later}
use Rattle.list_laws.proofs.StrictlySorted.{first_before, not_before_itself, sorted_cons, sorted_nil}

-- a joined list is strictly sorted where both parts are, and all of the first is before all of the second
pub sorted-append : {K : Type 0} (R : K → K → Ordering) (xs ys : List K) → IsStrictlySortedBy R xs → IsStrictlySortedBy R ys → ((x y : K) → Contains xs x → Contains ys y → R x y ≡ Less) → IsStrictlySortedBy R (xs ++ ys)
sorted-append R [] ys s t h = t
sorted-append R (x ∷ xs) ys s t h =
    sorted_cons R x (xs ++ ys)
    (All-append (λ y. R x y ≡ Less) xs ys (first_before R x xs s) (λ k d l. h x (get_or ys k d) (Contains-here x xs) (Contains-get_or ys k d l)))
    (sorted-append R xs ys (sorted_tail R x xs s) t (λ z y i j. h z y (Contains-later x xs z i) j))

-- and so are lists joined for each element of a strictly sorted list
pub sorted-flat_map : {X K : Type 0} (S : X → X → Ordering) (R : K → K → Ordering) (f : X → List K) (xs : List X) → IsStrictlySortedBy S xs → ((x : X) → IsStrictlySortedBy R (f x)) → ((x y : X) (p q : K) → S x y ≡ Less → Contains (f x) p → Contains (f y) q → R p q ≡ Less) → IsStrictlySortedBy R (flat_map f xs)
sorted-flat_map S R f [] s each across = sorted_nil R
sorted-flat_map S R f (x ∷ xs) s each across =
    sorted-append R (f x) (flat_map f xs) (each x) (sorted-flat_map S R f xs (sorted_tail S x xs s) each across)
    (λ p q i j.
    let r = Contains-from_flat_map f xs q j in
    across x r.0 p q (All-contains (λ y. S x y ≡ Less) xs r.0 (first_before S x xs s) r.1) i r.2)

-- and the images of one, where the map keeps the order
pub sorted-map : {X K : Type 0} (S : X → X → Ordering) (R : K → K → Ordering) (f : X → K) (xs : List X) → ((x y : X) → S x y ≡ Less → R (f x) (f y) ≡ Less) → IsStrictlySortedBy S xs → IsStrictlySortedBy R (map f xs)
sorted-map S R f [] keeps s = sorted_nil R
sorted-map S R f (x ∷ xs) keeps s =
    sorted_cons R (f x) (map f xs)
    (All-map (λ k. R (f x) k ≡ Less) f xs (All-weaker (λ y. S x y ≡ Less) (λ y. R (f x) (f y) ≡ Less) (λ y. keeps x y) xs (first_before S x xs s)))
    (sorted-map S R f xs keeps (sorted_tail S x xs s))

-- the numbers from one on are strictly sorted
pub sorted-range_with_len : (a n : ℕ) → IsStrictlySortedBy nat_cmp (range_with_len a n)
sorted-range_with_len a zero = sorted_nil nat_cmp
sorted-range_with_len a (suc n) =
    sorted_cons nat_cmp a (range_with_len (a + 1) n)
    (λ k d l. less a (get_or (range_with_len (a + 1) n) k d) (omega (arith, get_or-range_with_len (a + 1) n k d (omega (arith, length-range_with_len (a + 1) n)), length-range_with_len (a + 1) n)))
    (sorted-range_with_len (a + 1) n)
  where
    less : (a b : ℕ) → a < b → nat_cmp a b ≡ Less
    less a b h = ap (λ t. cond t Less (cond (a == b) Equal Greater)) (lt-ltb a b h)

-- an element stands at one place of a strictly sorted list
pub one_place : {K : Type 0} {R : K → K → Ordering} (o : IsTotalOrder R) (xs : List K) (x : K) (i j : ℕ) → IsStrictlySortedBy R xs → slice_get xs i ≡ Some x → slice_get xs j ≡ Some x → i ≡ j
one_place {R = R} o xs x i j s e g =
    elim (cases_lt i j) [
      | inl l ↦ absurd (twice i j e g l)
      | inr h ↦ elim (cases_lt j i) [
        | inl l ↦ absurd (twice j i g e l)
        | inr k ↦ omega arith
      ]
    ]
  where
    twice : (i j : ℕ) → slice_get xs i ≡ Some x → slice_get xs j ≡ Some x → i < j → ⊥
    twice i j e g l =
        let below : j < length xs = slice_get_within xs j x g in
        let less : R (get_or xs i x) (get_or xs j x) ≡ Less = Less-from_sorted R xs i j x s l below in
        not_before_itself o x (subst (λ y. R x y ≡ Less) (get_or_from_slice_get xs j x x g) (subst (λ y. R y (get_or xs j x) ≡ Less) (get_or_from_slice_get xs i x x e) less))
