use Rattle.std.proofs.Common.{◌≡◌, ◌∙◌, ◌<◌, List, length, get_or, arith, ap, subst, sym}
use Rattle.std.proofs.lemmas.Option.{get_or_from_slice_get}
use Rattle.std.proofs.lemmas.List.Elements.{All-get_or}
use Rattle.space3.specs.declared.vectors.V3.{V3}
use Rattle.space3.specs.Vectors.{Within, difference, origin}
use Rattle.list_laws.proofs.Pushes.{zipped_more, all_more}
use Rattle.surface_mesh.specs.declared.ranges.TheConstants.{FARTHEST_BEFORE, FASTEST}
use Rattle.frame_driver.proofs.Starts.{place_before_is_near}
use Rattle.frame_driver.proofs.before.places_before.Goals as goal

pub loop-node-preserved : goal.loop-node-preserved
loop-node-preserved c =
    let places : List V3 = c.args.places.now in
    let velocity : List V3 = c.args.velocity.now in
    let node = c.loop-node.node in
    let there : node < length places = omega (arith, c.len-node-end.ensures, c.loop-node-test.true) in
    let moving : node < length velocity = omega (arith, there, c.requires.as_many) in
    let place : c.get.result ≡ get_or places node origin = sym (get_or_from_slice_get places node c.get.result origin c.get.ensures.place) in
    let before = c.loop-node.list.items in
    let after = c.push.new.self.items in
    record {
      value = zipped_more (λ (pair : V3 × V3). difference pair.0 pair.1) places velocity node origin origin c.sub.result before after there moving c.loop-node.invariant.value
          (c.sub.ensures ∙ ap (λ (p : V3). difference p (get_or velocity node origin)) place) c.in_ok-push.ensures.items;
      near = all_more (Within FARTHEST_BEFORE) c.sub.result before after c.loop-node.invariant.near
          (subst (Within FARTHEST_BEFORE) (sym c.sub.ensures) (place_before_is_near c.get.result (get_or velocity node origin) c.get.ensures.in_box (All-get_or (Within FASTEST) velocity node origin moving c.requires.slow))) c.in_ok-push.ensures.items;
    }
