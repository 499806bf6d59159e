-- The nodes of a pair's two parts differ, and how many pairs a kind has.
use Rattle.std.proofs.Common.{◌≡◌, ◌∙◌, ℕ, suc, ◌*◌, ◌<◌, ◌≤◌, Bool, true, false, not, List, [], ◌∷◌, ◌++◌, map, length, get_or, sym, subst, arith}
use Rattle.std.specs.Prelude.{◌==◌}
use Rattle.std.specs.List.{All, AllPairs, filter, list_any, range_with_len}
use Rattle.std.specs.List.Sorted.{IsStrictlyIncreasing}
use borrow.Author.Tests.{eq-eqb}
use Rattle.std.proofs.lemmas.Bool.{and_parts, or_parts}
use Rattle.std.proofs.lemmas.List.{length-map}
use Rattle.std.proofs.lemmas.List.Concat.{length-flat_map}
use Rattle.std.proofs.lemmas.List.Elements.{All-append, All-nil, All-cons}
use Rattle.std.proofs.lemmas.List.FromFn.{length-range_with_len}
use Rattle.std.proofs.lemmas.List.Kept.{AllPairs-cons, AllPairs-from_increasing}
use Rattle.std.proofs.lemmas.List.Sums.{count_by-le-length, length-filter, sum_by-le}
use Rattle.boundary.specs.declared.pairs.Pair.{Pair}
use Rattle.boundary.specs.declared.pairs.PairKind.{PairKind}
use Rattle.boundary.specs.Pairs.{IsPair, all_pairs, counts, first_parts, has_node, is_in_order, pair_of, pairs_of_kind, part_pair, second_parts, share_node}
use Rattle.boundary.specs.Surface.{SurfaceLists}

-- two numbers that differ
abbrev Differ : ℕ → ℕ → Type 0
Differ x y = ¬ (x ≡ y)

-- a node that is not among some differs from each of them
none_same : (x : ℕ) (ys : List ℕ) → list_any (λ y. x == y) ys ≡ false → All (Differ x) ys
none_same x [] e = All-nil (Differ x)
none_same x (y ∷ ys) e =
    let parts = or_parts (x == y) (list_any (λ z. x == z) ys) e in
    All-cons (Differ x) y ys (λ same. let t : true ≡ false = sym (eq-eqb x y same) ∙ parts.0 in cc) (none_same x ys parts.1)

-- two lists of different numbers that have none in common
joined_differ : (xs ys : List ℕ) → AllPairs Differ xs → AllPairs Differ ys → list_any (has_node ys) xs ≡ false → AllPairs Differ (xs ++ ys)
joined_differ [] ys h k e = k
joined_differ (x ∷ xs) ys h k e =
    let parts = or_parts (has_node ys x) (list_any (has_node ys) xs) e in
    AllPairs-cons Differ x (xs ++ ys)
    (All-append (Differ x) xs ys (λ j d l. h 0 (suc j) d (omega arith) (omega arith)) (none_same x ys parts.0))
    (joined_differ xs ys (λ i j d below l. h (suc i) (suc j) d (omega arith) (omega arith)) k parts.1)

rising_differ : (xs : List ℕ) → IsStrictlyIncreasing xs → AllPairs Differ xs
rising_differ xs h i j d below l = λ same. apart _ _ (AllPairs-from_increasing xs h i j d below l) same
  where
    apart : (m n : ℕ) → m < n → m ≡ n → ⊥
    apart m n h e = omega arith

-- all nodes of a pair whose parts ascend differ
pub nodes_differ : (s : SurfaceLists) (p : Pair) → IsPair s p → IsStrictlyIncreasing (part_pair s p).left → IsStrictlyIncreasing (part_pair s p).right →
    AllPairs Differ ((part_pair s p).left ++ (part_pair s p).right)
nodes_differ s p pair h k =
    joined_differ (part_pair s p).left (part_pair s p).right (rising_differ _ h) (rising_differ _ k)
    (none_shared (share_node (part_pair s p)) (and_parts (is_in_order p.kind p.a p.b) (not (share_node (part_pair s p))) pair.counts_there).1)
  where
    none_shared : (b : Bool) → not b ≡ true → b ≡ false
    none_shared true e = sym e
    none_shared false e = cc

-- ---- how many
pub few_pass : {A : Type 0} (test : A → Bool) (xs : List A) → length (filter test xs) ≤ length xs
few_pass test xs = omega (arith, length-filter test xs, count_by-le-length test xs)

few_pairs : (kind : PairKind) (firsts seconds : ℕ) → length (all_pairs kind firsts seconds) ≤ firsts * seconds
few_pairs kind firsts seconds =
    let row : ℕ → List Pair = λ a. map (pair_of kind a) (range_with_len 0 seconds) in
    let each : All (λ a. length (row a) ≤ seconds) (range_with_len 0 firsts) =
    λ k d l. omega (arith, length-map (range_with_len 0 seconds) (pair_of kind (get_or (range_with_len 0 firsts) k d)), length-range_with_len 0 seconds) in
    subst (λ n. length (all_pairs kind firsts seconds) ≤ n * seconds) (length-range_with_len 0 firsts)
    (subst (λ n. n ≤ length (range_with_len 0 firsts) * seconds) (sym (length-flat_map row (range_with_len 0 firsts)))
    (sum_by-le (λ a. length (row a)) seconds (range_with_len 0 firsts) each))

-- a kind has no more pairs than first parts times second parts
pub few_of_kind : (s : SurfaceLists) (kind : PairKind) → length (pairs_of_kind s kind) ≤ length (first_parts s kind) * length (second_parts s kind)
few_of_kind s kind =
    let firsts = length (first_parts s kind) in
    let seconds = length (second_parts s kind) in
    omega (arith, few_pass (counts s) (all_pairs kind firsts seconds), few_pairs kind firsts seconds)
