use Rattle.std.proofs.Common.{◌≡◌, ◌∙◌, length, ap, subst, rules}
use Rattle.std.specs.Prelude.{All}
use Rattle.space3.specs.Box.{IsInTheBox}
use Rattle.space3.proofs.Moves.{length-moved_by}
use Rattle.space3.proofs.places.Places.moved.Goals as goal

pub invariant_of-result : goal.invariant_of-result
invariant_of-result c =
    let same : length c.in_ok-list.list.items ≡ length c.deref.result.now = ap length c.in_ok-list.ensures ∙ length-moved_by c.deref.result.now c.args.dir.now c.args.half (search rules) in
    record {
      few = search rules;
      each = subst (All IsInTheBox) c.deref-2.ensures.value (c.are_in_box.ensures.0 c.if-are_in_box.true);
    }
