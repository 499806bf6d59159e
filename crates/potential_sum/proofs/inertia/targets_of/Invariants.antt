use Rattle.std.proofs.Common.{◌≡◌, take}
use Rattle.std.specs.Prelude.{All}
use Rattle.space3.specs.Vectors.{Within}
use Rattle.inertia_term.specs.declared.target.TheConstants.{FARTHEST_TARGET}
use Rattle.potential_sum.specs.Terms.{targets_of}
use Rattle.potential_sum.proofs.inertia.targets_of.Given as goal

abbrev pub invariant-loop-node : goal.invariant-loop-node
invariant-loop-node l = record {
  targets : l.made.items ≡ targets_of l.gravity (take l.node l.now) (take l.node l.before);
  near : All (Within FARTHEST_TARGET) l.made.items;
}
