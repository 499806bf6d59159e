use Rattle.std.proofs.Common.{◌<ℤ◌, All, take}
use Rattle.space3.specs.Vectors.{dot_product}
use Rattle.pair_cert.proofs.centres.are_past.Given as goal

abbrev pub invariant-loop-p : goal.invariant-loop-p
invariant-loop-p l = All (λ p. l.level <ℤ dot_product l.n p) (take l.p-index l.points)
