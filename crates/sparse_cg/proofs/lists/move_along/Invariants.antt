use Rattle.std.proofs.Common.{◌≡◌, ◌^◌, ◌<◌, ◌≤◌, ℕ, pos, unsigned_abs, get_or}
use Rattle.std.specs.Prelude.{All}
use Rattle.sparse_cg.specs.Turns.{moved}
use Rattle.sparse_cg.specs.Calls.Fronts.{IsFront}
use Rattle.sparse_cg.proofs.lists.move_along.Given as goal

abbrev pub invariant-loop-i : goal.invariant-loop-i
invariant-loop-i l = record {
  front : IsFront (λ x. unsigned_abs x < 2 ^ 44) (λ k. moved l.share.raw (get_or l.fn.numbers k (pos 0)) (get_or l.ways k (pos 0))) l.numbers l.i;
  short : All (λ x. unsigned_abs x < 2 ^ 44) l.numbers;
  rest : (k : ℕ) → l.i ≤ k → get_or l.numbers k (pos 0) ≡ get_or l.fn.numbers k (pos 0);
}
