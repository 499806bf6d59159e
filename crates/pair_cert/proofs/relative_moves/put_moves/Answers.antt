use Rattle.std.proofs.Common.{◌∙◌, ◌<◌, ◌++◌, length, take, length-set, ap, arith}
use Rattle.std.proofs.lemmas.List.{take_all, take_more_set}
use Rattle.safe_motion.specs.declared.depth.TheConstants.{DEPTH}
use Rattle.pair_cert.specs.Calls.Moves.{HasRoom, moves_from, relative_move}
use Rattle.pair_cert.specs.Parts.{moves_of, still}
use Rattle.list_laws.proofs.Pushes.{all_more}
use Rattle.list_laws.proofs.Writes.{put_image}
use Rattle.pair_cert.proofs.relative_moves.put_moves.Goals as goal

pub loop-j-preserved : goal.loop-j-preserved
loop-j-preserved c =
    let ys = moves_of c.args.b.now in
    let there : c.loop-j.j < length ys = omega arith in
    let here : c.loop-j.end < length c.loop-j.at = omega arith in
    record {
      moves = put_image (relative_move c.args.x) ys c.loop-j.at (take c.args.count c.args.at.now) c.loop-j.end c.loop-j.j still c.relative_move.result here there
          (c.relative_move.ensures.value ∙ ap (relative_move c.args.x) c.corner.ensures.value) c.loop-j.invariant.moves;
      room = all_more (HasRoom DEPTH) c.relative_move.result (take c.loop-j.end c.loop-j.at) _ c.loop-j.invariant.room c.relative_move.ensures.room (take_more_set c.loop-j.at c.loop-j.end c.relative_move.result here);
      count = omega arith;
      long = omega (arith, length-set c.loop-j.at c.loop-j.end c.relative_move.result);
    }

pub returns-clause-moves : goal.returns-clause-moves
returns-clause-moves c = c.loop-j.invariant.moves ∙ ap (λ ys. take c.args.count c.args.at.now ++ moves_from ys c.args.x) (take_all c.loop-j.j (moves_of c.args.b.now) (omega arith))
