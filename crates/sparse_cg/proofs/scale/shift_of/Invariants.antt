use Rattle.std.proofs.Common.{ℕ, ◌+◌, ◌<◌, ◌≤◌, ◌^◌}
use Rattle.sparse_cg.proofs.scale.shift_of.Given as goal

abbrev pub invariant-loop-shift : goal.invariant-loop-shift
invariant-loop-shift l = (lesser : ℕ) → lesser < l.shift → 2 ^ (40 + lesser) ≤ l.most
