use Rattle.std.proofs.Common.{◌≡◌, map, take, get_or}
use Rattle.space3.specs.declared.lists.Tet.{Tet}
use Rattle.potential_sum.specs.Bodies.{elastic_of}
use Rattle.potential_sum.specs.Calls.Kept.{elastic_in}
use Rattle.potential_sum.proofs.bodies.bodies_in_turns.Given as goal

abbrev pub invariant-loop-turn : goal.invariant-loop-turn
invariant-loop-turn l = (d : Tet) →
    map elastic_in l.made.items ≡ map (λ turn. elastic_of l.fn.setup (get_or l.fn.setup.mesh.tets turn.tet d)) (take l.turn-index l.turns)
