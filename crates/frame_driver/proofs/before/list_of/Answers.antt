use Rattle.std.proofs.Common.{◌<◌, length, arith, sym}
use Rattle.std.proofs.lemmas.Option.{get_or_from_slice_get}
use Rattle.space3.specs.Vectors.{Within, origin}
use Rattle.list_laws.proofs.Pushes.{taken_more, all_more}
use Rattle.surface_mesh.specs.declared.ranges.TheConstants.{FARTHEST_BEFORE}
use Rattle.frame_driver.proofs.Starts.{place_is_near}
use Rattle.frame_driver.proofs.before.list_of.Goals as goal

pub loop-node-preserved : goal.loop-node-preserved
loop-node-preserved c =
    let there : c.loop-node.node < length c.args.places.now = omega (arith, c.len-node-end.ensures, c.loop-node-test.true) in
    let before = c.loop-node.list.items in
    let after = c.push.new.self.items in
    record {
      same = taken_more c.args.places.now c.loop-node.node origin c.get.result before after there c.loop-node.invariant.same (sym (get_or_from_slice_get c.args.places.now c.loop-node.node c.get.result origin c.get.ensures.place)) c.in_ok-push.ensures.items;
      near = all_more (Within FARTHEST_BEFORE) c.get.result before after c.loop-node.invariant.near (place_is_near c.get.result c.get.ensures.in_box) c.in_ok-push.ensures.items;
    }
