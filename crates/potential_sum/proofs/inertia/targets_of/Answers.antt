use Rattle.std.proofs.Common.{◌≡◌, ◌∙◌, ◌<◌, List, [], ◌∷◌, length, get_or, ap, sym, arith}
use Rattle.std.proofs.lemmas.List.Elements.{All-nil, All-cons, All-append}
use Rattle.std.proofs.lemmas.Option.{get_or_from_slice_get}
use Rattle.space3.specs.declared.vectors.V3.{V3}
use Rattle.space3.specs.Vectors.{Within, origin}
use Rattle.inertia_term.specs.declared.target.TheConstants.{FARTHEST_TARGET}
use Rattle.inertia_term.specs.Inertia.{target_of}
use Rattle.list_laws.proofs.Pushes.{zipped_more}
use Rattle.potential_sum.proofs.inertia.targets_of.Goals as goal

pub loop-node-preserved : goal.loop-node-preserved
loop-node-preserved c =
    let places : List V3 = c.args.now.now in
    let before : List V3 = c.args.before.now in
    let target : V3 = c.target_of.result in
    let there : c.loop-node.node < length places = omega (arith, c.len-node-end.ensures, c.loop-node-test.true) in
    let place : c.get.result ≡ get_or places c.loop-node.node origin = sym (get_or_from_slice_get places c.loop-node.node c.get.result origin c.get.ensures.place) in
    let next : target ≡ target_of c.args.gravity (get_or places c.loop-node.node origin) (get_or before c.loop-node.node origin) = c.target_of.ensures.value ∙ ap (λ (p : V3). target_of c.args.gravity p (get_or before c.loop-node.node origin)) place in
    record {
      targets = zipped_more (λ (node : V3 × V3). target_of c.args.gravity node.0 node.1) places before c.loop-node.node origin origin target c.loop-node.made.items c.push.new.self.items there (omega (arith, there, c.requires.as_many)) c.loop-node.invariant.targets next c.in_ok-push.ensures.items;
      near = rw c.in_ok-push.ensures.items (All-append (Within FARTHEST_TARGET) c.loop-node.made.items (target ∷ []) c.loop-node.invariant.near (All-cons (Within FARTHEST_TARGET) target [] c.target_of.ensures.bound (All-nil (Within FARTHEST_TARGET))));
    }
