-- Each two edges count once, so there are at most half as many pairs of edges as places for them.
use Rattle.std.proofs.Common.{◌≡◌, ◌∙◌, ℕ, zero, suc, ◌+◌, ◌-◌, ◌*◌, ◌≤◌, ◌<◌, Bool, true, false, not, cond, List, [], ◌∷◌, ◌++◌, map, length, refl, ap, sym, subst, arith, add-one, suc-mul, mul-suc, length-append}
use Rattle.std.specs.Prelude.{nat_lt}
use Rattle.std.specs.List.{filter, flat_map, range_with_len}
use Rattle.std.proofs.lemmas.Bool.{and_parts, ltb-true}
use Rattle.std.proofs.lemmas.List.Elements.{filter-append}
use Rattle.std.proofs.lemmas.List.FromFn.{filter_of_map_range_with_len_more}
use Rattle.list_laws.proofs.Pushes.{flat_map_counted_more}
use Rattle.boundary.specs.declared.pairs.Pair.{Pair}
use Rattle.boundary.specs.declared.pairs.PairKind.TheVariants.{EE}
use Rattle.boundary.specs.Pairs.{all_pairs, counts, pair_of, pairs_of_kind, part_pair, share_node}
use Rattle.boundary.specs.Surface.{SurfaceLists}

-- those of the edge a with one of the first n that count
abbrev of_edge : SurfaceLists → ℕ → ℕ → List Pair
of_edge s a n = filter (counts s) (map (pair_of EE a) (range_with_len 0 n))

-- no more than edges that stand after it
later_edges : (s : SurfaceLists) (a n : ℕ) → length (of_edge s a n) ≤ n - suc a
later_edges s a zero = omega arith
later_edges s a (suc n) =
    subst (λ k. length (of_edge s a k) ≤ k - suc a) (add-one n)
    (subst (λ (l : List Pair). length l ≤ (n + 1) - suc a) (sym (filter_of_map_range_with_len_more (counts s) (pair_of EE a) 0 n n (omega arith)))
    (by (counts s (pair_of EE a n)) refl (later_edges s a n)))
  where
    by : (b : Bool) → counts s (pair_of EE a n) ≡ b → length (of_edge s a n) ≤ n - suc a → length (of_edge s a n ++ cond b (pair_of EE a n ∷ []) []) ≤ (n + 1) - suc a
    by true e h =
        let after : a < n = ltb-true a n (and_parts (nat_lt a n) (not (share_node (part_pair s (pair_of EE a n)))) e).0 in
        omega (arith, length-append (of_edge s a n) (pair_of EE a n ∷ []), h, after)
    by false e h = omega (arith, length-append (of_edge s a n) [], h)

-- of the first m edges with all n: a square minus half a square
of_first_edges : (s : SurfaceLists) (m n : ℕ) → m ≤ n → 2 * length (filter (counts s) (all_pairs EE m n)) + m * m ≤ 2 * (m * n)
of_first_edges s zero n h = omega arith
of_first_edges s (suc m) n h =
    let row : ℕ → List Pair = λ a. map (pair_of EE a) (range_with_len 0 n) in
    let so_far = filter (counts s) (all_pairs EE m n) in
    let all : filter (counts s) (all_pairs EE (suc m) n) ≡ so_far ++ of_edge s m n =
    ap (λ k. filter (counts s) (flat_map row (range_with_len 0 k))) (sym (add-one m)) ∙ ap (filter (counts s)) (flat_map_counted_more row m) ∙ filter-append (counts s) (all_pairs EE m n) (row m) in
    step m n (length (filter (counts s) (all_pairs EE (suc m) n))) (length so_far) (length (of_edge s m n)) (ap length all ∙ length-append so_far (of_edge s m n)) (later_edges s m n) h (of_first_edges s m n (omega (arith, h)))
  where
    squared : (m : ℕ) → (suc m) * (suc m) ≡ m * m + 2 * m + 1
    squared m = omega (arith, suc-mul m (suc m), mul-suc m m)

    step : (m n all so_far more : ℕ) → all ≡ so_far + more → more ≤ n - suc m → suc m ≤ n → 2 * so_far + m * m ≤ 2 * (m * n) → 2 * all + (suc m) * (suc m) ≤ 2 * ((suc m) * n)
    step m n all so_far more e l h k = omega (arith, squared m, suc-mul m n, e, l, h, k)

pub few_edge_pairs : (s : SurfaceLists) → 2 * length (pairs_of_kind s EE) ≤ length s.edges * length s.edges
few_edge_pairs s = omega (arith, of_first_edges s (length s.edges) (length s.edges) (omega arith))
