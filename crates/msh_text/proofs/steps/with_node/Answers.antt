use Rattle.std.proofs.Common.{[], ◌∷◌}
use Rattle.std.proofs.lemmas.List.Elements.{All-append, All-cons, All-nil}
use Rattle.space3.specs.Box.{IsInTheBox}
use Rattle.msh_text.proofs.steps.with_node.Goals as goal

pub invariant_of-result-clause-in_box : goal.invariant_of-result-clause-in_box
invariant_of-result-clause-in_box c =
    rw c.in_ok-push.ensures.items
    (All-append IsInTheBox c.args.nodes.places.items (c.args.node.place ∷ []) c.args.nodes.in_box (All-cons IsInTheBox c.args.node.place [] c.requires.in_box (All-nil IsInTheBox)))
