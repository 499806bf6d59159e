use Rattle.std.proofs.Common.{◌∙◌, refl, ap, length, subst}
use Rattle.space3.proofs.Moves.{length-moved_by}
use Rattle.line_search.specs.Accepted.{IsAllowed}
use Rattle.line_search.proofs.halvings.accepted_halving.Goals as goal

pub lower_if_allowed-requires-clause-each : goal.lower_if_allowed-requires-clause-each
lower_if_allowed-requires-clause-each c =
    let moved = rw c.in-Some.is at c.in_ok-y.ensures in
    ap length moved.places ∙ length-moved_by c.args.x.now c.args.direction.now c.args.half c.requires.direction.each ∙ c.requires.ready.pose.each

pub returns-clause-accepted : goal.returns-clause-accepted
returns-clause-accepted c = (
  λ t.
      let moving = c.moves.ensures.0 c.if-not-moves.false in
      let moved = rw c.in-Some.is at c.in_ok-y.ensures in
      let allowed = rw c.in-Some-2.is at c.in_ok-lower.ensures.allowed in
      record {
        moves = (moving.0, moving.1, moving.2, moving.3, moving.4.moves);
        allowed = subst (IsAllowed c.args.setup.now c.args.terms.now.frame c.args.x.now) moved.places (allowed.0 refl);
      },
  λ a. refl,
)
