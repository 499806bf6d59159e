use Rattle.std.proofs.Common.{◌∙◌, [], ◌++◌, take, get_or, sym, ap, arith}
use Rattle.std.specs.List.{flat_map}
use Rattle.std.proofs.lemmas.List.{flat_map_more, take_all, take_more}
use Rattle.pair_cert.specs.Calls.Moves.{moves_from, relative_moves}
use Rattle.pair_cert.specs.Parts.{moves_of, still}
use Rattle.pair_cert.proofs.relative_moves.relative_moves.Goals as goal

pub loop-i-preserved : goal.loop-i-preserved
loop-i-preserved c =
    let xs = moves_of c.args.a.now in
    let ys = moves_of c.args.b.now in
    record {
      moves = c.put_moves-count.ensures.moves ∙ (λ t. c.loop-i.invariant.moves t ++ moves_from ys (c.corner.ensures.value t)) ∙ flat_map_more (moves_from ys) [] (take c.loop-i.i xs) (get_or xs c.loop-i.i still) ∙ ap (flat_map (moves_from ys)) (sym (take_more xs c.loop-i.i still (omega arith)));
      room = c.put_moves-count.ensures.room;
      count = omega arith;
    }

pub returns-clause-moves : goal.returns-clause-moves
returns-clause-moves c = c.loop-i.invariant.moves ∙ ap (λ xs. relative_moves xs (moves_of c.args.b.now)) (take_all c.loop-i.i (moves_of c.args.a.now) (omega arith))
