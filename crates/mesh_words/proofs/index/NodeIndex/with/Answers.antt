use Rattle.std.proofs.Common.{rules}
use Rattle.std.specs.Ordering.{nat_cmp}
use Rattle.std.specs.BTreeMap.{get}
use Rattle.mesh_words.proofs.IndexLemmas.{index_near, index_far}
use Rattle.mesh_words.proofs.index.NodeIndex.with.Goals as goal

pub invariant_of-result : goal.invariant_of-result
invariant_of-result c =
    index_near c.self.inside.numbers.items c.push.new.self.items c.self.inside.near.items c.in_ok-near.near.items (get nat_cmp c.self.inside.far) c.args.number (search rules) c.self.invariant (search rules) (search rules) c.if-number-lt-NEAR_LIMIT.true (search rules)

pub invariant_of-result-2 : goal.invariant_of-result-2
invariant_of-result-2 c =
    index_far c.self.inside.numbers.items c.push.new.self.items c.self.inside.near.items (get nat_cmp c.self.inside.far) (get nat_cmp c.insert.new.self) c.args.number (search rules) c.self.invariant (search rules) (search rules) c.if-number-lt-NEAR_LIMIT.false (search rules)
