use Rattle.std.proofs.Common.{◌∙◌, ap, map, arith}
use Rattle.std.specs.List.{flat_map, enumerate_from}
use Rattle.std.proofs.lemmas.List.{take_all}
use Rattle.std.proofs.lemmas.List.FromFn.{length-enumerate_from}
use Rattle.boundary.proofs.Joining.{joined_more}
use Rattle.boundary.specs.Faces.{face_of, turns_of}
use Rattle.boundary.proofs.faces.faces_of.Goals as goal

pub loop-k-preserved : goal.loop-k-preserved
loop-k-preserved c =
    c.in_ok-extend_from_slice.ensures.items
    ∙ joined_more (λ placed. map (face_of placed.0) (turns_of placed.1.nodes)) c.args.tets.now c.loop-k.faces.items
    c.loop-k.k c.index-tets-k.result _ c.loop-k-test.true c.index-tets-k.is c.loop-k.invariant c.tet_faces.ensures

pub returns : goal.returns
returns c =
    c.loop-k.invariant
    ∙ ap (flat_map (λ placed. map (face_of placed.0) (turns_of placed.1.nodes)))
    (take_all c.loop-k.k (enumerate_from 0 c.args.tets.now)
    (omega (arith, c.loop-k-test.false, length-enumerate_from 0 c.args.tets.now)))
