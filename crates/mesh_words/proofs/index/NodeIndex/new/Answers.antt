use Rattle.std.proofs.Common.{refl}
use Rattle.std.specs.Ordering.{nat_cmp}
use Rattle.std.specs.BTreeMap.{get}
use Rattle.mesh_words.proofs.IndexLemmas.{empty_index}
use Rattle.mesh_words.proofs.index.NodeIndex.new.Goals as goal

pub invariant_of-result : goal.invariant_of-result
invariant_of-result c =
    rw (c.new.ensures.items, c.new-2.ensures.items)
    (empty_index (get nat_cmp c.new-3.result) (λ q. rw c.new-3.ensures.empty refl))
