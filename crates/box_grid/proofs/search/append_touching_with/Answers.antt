use Rattle.std.proofs.Common.{◌∙◌, ◌++◌, ap, arith}
use Rattle.box_grid.proofs.FoundByKeys.{HasKeys_more, HasKeys_none, items_below}
use Rattle.box_grid.proofs.search.append_touching_with.Goals as goal

pub loop-key-init : goal.loop-key-init
loop-key-init c = record {
  keys = HasKeys_none c.args.query.now c.args.buckets.now.entries c.args.found.now.items;
  tested = omega arith;
}

pub loop-key-preserved : goal.loop-key-preserved
loop-key-preserved c = record {
  keys =
      HasKeys_more c.args.query.now c.args.buckets.now.entries c.with_key-part.result.now c.args.keys.now c.loop-key.key-index _ c.args.found.now.items c.loop-key.found.items c.append_below.new.found.items
      c.loop-key-test.true c.loop-key.invariant.keys c.with_key-part.ensures
      (c.in_ok-append_below.ensures.items ∙ ap (λ b. c.loop-key.found.items ++ items_below b c.with_key-part.result.now) c.bound_of.ensures);
  tested =
      let found = c.append_below.new.found in
      omega (arith, c.loop-key.invariant.tested, c.in_ok-append_below.ensures.tested, c.saturating_add-tested.ensures, found.ok.0, found.ok.1, found.small);
}
