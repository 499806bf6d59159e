use Rattle.std.proofs.Common.{◌≡◌, ◌^◌, ◌*◌, ◌≤◌, pos, ◌*ℤ◌, unsigned_abs, get_or, map}
use Rattle.std.specs.List.{range_with_len}
use Rattle.list_laws.specs.Sums.{total}
use Rattle.sparse_cg.proofs.lists.dot.Given as goal

abbrev pub invariant-loop-i : goal.invariant-loop-i
invariant-loop-i l = record {
  value : l.sum.raw ≡ total (map (λ k. get_or l.xs k (pos 0) *ℤ get_or l.ys k (pos 0)) (range_with_len 0 l.i));
  bound : unsigned_abs l.sum.raw ≤ l.i * 2 ^ 88;
}
