use Rattle.std.proofs.Common.{◌∙◌, ◌<◌, length, take, arith}
use Rattle.std.proofs.lemmas.List.{length-set, take_more_set}
use Rattle.list_laws.proofs.Elements.{All-take_less}
use Rattle.list_laws.proofs.Pushes.{all_more}
use Rattle.space3.specs.Box.{IsInTheBox}
use Rattle.boundary.proofs.Corners.{corner_more}
use Rattle.boundary.proofs.parts.spot_at.Goals as goal

pub loop-k-preserved : goal.loop-k-preserved
loop-k-preserved c =
    let inside : c.loop-k.k < length c.loop-k.at = omega (arith, c.loop-k-test.true, c.requires.few, c.loop-k.invariant.four) in
    record {
      four = length-set c.loop-k.at c.loop-k.k c.get.result ∙ c.loop-k.invariant.four;
      placed =
          corner_more c.args.places.now c.loop-k.at c.args.nodes.now c.loop-k.k c.get.result
          inside c.loop-k-test.true c.get.ensures.place c.loop-k.invariant.placed;
      in_box =
          all_more IsInTheBox c.get.result (take c.loop-k.k c.loop-k.at) _ c.loop-k.invariant.in_box c.get.ensures.in_box
          (take_more_set c.loop-k.at c.loop-k.k c.get.result inside);
    }

pub returns-clause-in_box : goal.returns-clause-in_box
returns-clause-in_box c =
    All-take_less IsInTheBox c.loop-k.at (length c.args.nodes.now) c.loop-k.k (omega (arith, c.loop-k-test.false)) c.loop-k.invariant.in_box
