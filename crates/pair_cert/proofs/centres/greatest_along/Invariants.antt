use Rattle.std.proofs.Common.{◌≤ℤ◌, All, take}
use Rattle.space3.specs.Vectors.{dot_product}
use Rattle.pair_cert.proofs.centres.greatest_along.Given as goal

abbrev pub invariant-loop-p : goal.invariant-loop-p
invariant-loop-p l = All (λ p. dot_product l.n p ≤ℤ l.greatest) (take l.p-index l.points)
