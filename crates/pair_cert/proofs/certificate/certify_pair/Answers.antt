use Rattle.std.proofs.Common.{◌∙◌, refl, arith}
use Rattle.safe_motion.specs.declared.depth.TheConstants.{DEPTH}
use Rattle.safe_motion.specs.Certificates.{IsServed}
use Rattle.safe_motion.proofs.Certified.{certified_apart}
use Rattle.safe_motion.proofs.HalfIntervals.{served_inherited}
use Rattle.safe_motion.proofs.Halving.{halves_from_each, each_from_halves}
use Rattle.safe_motion.proofs.BoxLemmas.{untouched_is_certified}
use Rattle.pair_cert.specs.Parts.{moves_of}
use Rattle.pair_cert.proofs.Halvings.{moves-whole}
use Rattle.pair_cert.specs.Calls.RelativeMoves.{moves_in}
use Rattle.pair_cert.proofs.Rooms.{short_now}
use Rattle.pair_cert.proofs.Searches.{served_throughout, untouched, whole_served}
use Rattle.pair_cert.proofs.Tallies.{stays}
use Rattle.pair_cert.proofs.certificate.certify_pair.Goals as goal

pub serves_some_other-requires : goal.serves_some_other-requires
serves_some_other-requires c = short_now DEPTH (moves_in c.relative_moves-moves.result) c.relative_moves-moves.ensures.room

pub returns-then-do_centres_separate-clause-certificate : goal.returns-then-do_centres_separate-clause-certificate
returns-then-do_centres_separate-clause-certificate c =
    let xs = moves_of c.args.a.now in
    let ys = moves_of c.args.b.now in
    (λ t. served_throughout xs ys DEPTH (c.do_centres_separate.ensures c.if-do_centres_separate.true), λ h. refl)

pub returns-then-do_centres_separate-clause-apart : goal.returns-then-do_centres_separate-clause-apart
returns-then-do_centres_separate-clause-apart c = λ h. certified_apart DEPTH (moves_of c.args.a.now) (moves_of c.args.b.now) ((returns-then-do_centres_separate-clause-certificate c).0 h)

pub returns-then-do_centres_separate-clause-tally : goal.returns-then-do_centres_separate-clause-tally
returns-then-do_centres_separate-clause-tally c = stays _ c.args.tally.now.n (omega arith)

pub returns-then-serves_some_other-clause-certificate : goal.returns-then-serves_some_other-clause-certificate
returns-then-serves_some_other-clause-certificate c =
    let xs = moves_of c.args.a.now in
    let ys = moves_of c.args.b.now in
    (λ t. whole_served xs ys DEPTH (moves_in c.relative_moves-moves.result) (c.relative_moves-moves.ensures.moves ∙ moves-whole xs ys) (c.serves_some_other.ensures c.if-serves_some_other.true), λ h. refl)

pub returns-then-serves_some_other-clause-apart : goal.returns-then-serves_some_other-clause-apart
returns-then-serves_some_other-clause-apart c = λ h. certified_apart DEPTH (moves_of c.args.a.now) (moves_of c.args.b.now) ((returns-then-serves_some_other-clause-certificate c).0 h)

pub returns-then-serves_some_other-clause-tally : goal.returns-then-serves_some_other-clause-tally
returns-then-serves_some_other-clause-tally c = stays _ c.args.tally.now.n (omega arith)

pub returns-then-not-do_swept_boxes_touch-clause-certificate : goal.returns-then-not-do_swept_boxes_touch-clause-certificate
returns-then-not-do_swept_boxes_touch-clause-certificate c =
    let xs = moves_of c.args.a.now in
    let ys = moves_of c.args.b.now in
    (λ t. untouched_is_certified xs ys (untouched xs ys c.do_swept_boxes_touch.result c.do_swept_boxes_touch.ensures c.if-not-do_swept_boxes_touch.true) DEPTH, λ h. refl)

pub returns-then-not-do_swept_boxes_touch-clause-apart : goal.returns-then-not-do_swept_boxes_touch-clause-apart
returns-then-not-do_swept_boxes_touch-clause-apart c =
    let xs = moves_of c.args.a.now in
    let ys = moves_of c.args.b.now in
    λ t. certified_apart DEPTH xs ys (untouched_is_certified xs ys (untouched xs ys c.do_swept_boxes_touch.result c.do_swept_boxes_touch.ensures c.if-not-do_swept_boxes_touch.true) DEPTH)

pub returns-then-not-do_swept_boxes_touch-clause-tally : goal.returns-then-not-do_swept_boxes_touch-clause-tally
returns-then-not-do_swept_boxes_touch-clause-tally c = stays _ c.args.tally.now.n (omega arith)

pub returns-clause-certificate : goal.returns-clause-certificate
returns-clause-certificate c =
    let xs = moves_of c.args.a.now in
    let ys = moves_of c.args.b.now in
    let decided = c.is_certified.ensures.certificate xs ys 0 1 (c.relative_moves-moves.ensures.moves ∙ moves-whole xs ys) in
    (λ h. each_from_halves (IsServed xs ys) (served_inherited xs ys) DEPTH (decided.0 h), λ h. decided.1 (halves_from_each (IsServed xs ys) DEPTH h))

pub returns-clause-apart : goal.returns-clause-apart
returns-clause-apart c = λ h. certified_apart DEPTH (moves_of c.args.a.now) (moves_of c.args.b.now) ((returns-clause-certificate c).0 h)
