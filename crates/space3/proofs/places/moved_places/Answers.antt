use Rattle.std.proofs.Common.{◌<◌, length, arith}
use Rattle.space3.proofs.Moves.{moved_by_push}
use Rattle.space3.proofs.places.moved_places.Goals as goal

pub loop-i-preserved : goal.loop-i-preserved
loop-i-preserved c =
    let there : c.loop-i.i < length c.args.dir.now = omega (arith, c.requires.as_many, c.loop-i-test.true) in
    moved_by_push c.args.places.now c.args.dir.now c.args.half c.loop-i.i _ _ c.moved_place.result c.loop-i.made.items c.push.new.self.items c.loop-i-test.true there c.loop-i.invariant c.moved_place.ensures c.in_ok-push.ensures.items
