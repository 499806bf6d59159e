use Rattle.std.proofs.Common.{◌<◌, ◌^◌, take}
use Rattle.sparse_cg.specs.Calls.Lists.{IsGreatest}
use Rattle.sparse_cg.proofs.scale.greatest_size.Given as goal

abbrev pub invariant-loop-i : goal.invariant-loop-i
invariant-loop-i l = record {
  value : IsGreatest (take l.i l.slopes) l.most;
  small : l.most < 2 ^ 100;
}
