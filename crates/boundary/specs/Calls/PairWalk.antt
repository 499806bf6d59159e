-- What is left of the pair order.
use Rattle.std.specs.Prelude.{ℕ, ◌+◌, ◌-◌, List, ◌++◌, drop, length, map, filter}
use Rattle.std.specs.List.{flat_map, range_with_len}
use Rattle.boundary.specs.declared.pairs.Pair.{Pair}
use Rattle.boundary.specs.declared.pairs.PairKind.{PairKind}
use Rattle.boundary.specs.Pairs.{counts, first_parts, kinds, pair_of, pairs_of_kind, rank, second_parts}
use Rattle.boundary.specs.Surface.{SurfaceLists}

-- the pairs of a kind with this first part, from the second part b on
abbrev pub row_from : SurfaceLists → PairKind → ℕ → ℕ → List Pair
row_from s kind a b =
    map (pair_of kind a)
    (filter (λ k. counts s (pair_of kind a k)) (range_with_len b (length (second_parts s kind) - b)))

-- the pairs of a kind from the first part a on
abbrev pub rows_from : SurfaceLists → PairKind → ℕ → List Pair
rows_from s kind a = flat_map (λ k. row_from s kind k 0) (range_with_len a (length (first_parts s kind) - a))

-- what stands after a pair: the rest of its row, the later rows of its kind, the later kinds
abbrev pub pairs_after : SurfaceLists → Pair → List Pair
pairs_after s p =
    row_from s p.kind p.a (p.b + 1)
    ++ (rows_from s p.kind (p.a + 1) ++ flat_map (pairs_of_kind s) (drop (rank p.kind + 1) kinds))
