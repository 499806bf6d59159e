use Rattle.std.proofs.Common.{◌≡◌, ◌<◌, ℕ, List, [], length, map, subst, arith}
use Rattle.std.specs.Prelude.{All, slice_index_or}
use Rattle.std.specs.List.{range_with_len}
use Rattle.std.specs.List.Sorted.{IsPermutation}
use Rattle.std.proofs.lemmas.List.Elements.{All-filter}
use Rattle.std.proofs.lemmas.List.FromFn.{get_or-range_with_len, length-range_with_len}
use Rattle.std.proofs.lemmas.List.Sorted.{All-permutation, IsPermutation-map}
use Rattle.list_laws.proofs.Elements.{All-map_back}
use Rattle.space3.specs.declared.lists.Tet.{Tet}
use Rattle.potential_sum.specs.Calls.Turns.{is_held_as, positions_of}
use Rattle.potential_sum.specs.declared.turns.Turn.{Turn}
use Rattle.potential_sum.proofs.turns.turns_of.Goals as goal

abbrev tet_of : Turn → ℕ
tet_of turn = turn.tet

moved : (positions : List ℕ) (before after : List Turn) → map tet_of before ≡ positions → IsPermutation before after → IsPermutation positions (map tet_of after)
moved positions before after e h = subst (λ (list : List ℕ). IsPermutation list (map tet_of after)) e (IsPermutation-map tet_of before after h)

below : (n : ℕ) → All (λ k. k < n) (range_with_len 0 n)
below n = λ k d l. omega (arith, l, length-range_with_len 0 n, get_or-range_with_len 0 n k d (omega (arith, l, length-range_with_len 0 n)))

pub returns-clause-each : goal.returns-clause-each
returns-clause-each c d =
    moved (positions_of c.args.held c.args.fixed.now c.args.tets.now d) c.in_ok-turns.turns.items c.sort_along.new.turns.items (c.in_ok-turns.ensures d) c.sort_along.ensures

pub returns-clause-there : goal.returns-clause-there
returns-clause-there c =
    let n : ℕ = length c.args.tets.now in
    let d : Tet = record { number = 0; nodes = []; tags = [] } in
    let positions : List ℕ = positions_of c.args.held c.args.fixed.now c.args.tets.now d in
    All-map_back (λ k. k < n) tet_of c.sort_along.new.turns.items
    (All-permutation (λ k. k < n) positions (map tet_of c.sort_along.new.turns.items)
    (moved positions c.in_ok-turns.turns.items c.sort_along.new.turns.items (c.in_ok-turns.ensures d) c.sort_along.ensures)
    (All-filter (λ k. is_held_as c.args.held c.args.fixed.now (slice_index_or c.args.tets.now k d).nodes) (λ k. k < n) (range_with_len 0 n) (below n)))
