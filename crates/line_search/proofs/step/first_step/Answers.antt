use Rattle.std.proofs.Common.{◌≡◌, ◌∙◌, List, ap, length, refl, subst, rules, to_z, of_z}
use Rattle.std.specs.Int.{w128}
use Rattle.std.proofs.lemmas.Int.{to_z-of_z}
use Rattle.space3.proofs.Moves.{length-moved_by}
use Rattle.space3.specs.declared.vectors.V3.{V3}
use Rattle.space3.specs.Moved.{moved_by}
use Rattle.line_search.specs.Accepted.{IsFirstAccepted}
use Rattle.line_search.proofs.SafeSteps.{allowed_is_safe, allowed_is_pose, first_halving_is_allowed}
use Rattle.line_search.proofs.step.first_step.Goals as goal

pub returns-in-Some-clause-first : goal.returns-in-Some-clause-first
returns-in-Some-clause-first c =
    let found = rw c.in-Some.is at c.in_ok-first_halving.ensures.first in
    let setup = c.args.setup.now in
    let terms = c.args.terms.now.frame in
    let x = c.args.x.now in
    let half = c.in-Some.halving.half in
    let lower-is : to_z w128 (of_z w128 c.in-Some.halving.lower) ≡ c.in-Some.halving.lower = search rules in
    record {
      first = subst (λ (d : List V3). IsFirstAccepted setup terms x d half) c.items.ensures found.first;
      kind = refl;
      direction = refl;
      places = found.places ∙ ap (λ (d : List V3). moved_by x d half) c.items.ensures;
      lower = lower-is ∙ found.lower;
      upper = to_z-of_z w128 c.args.upper c.ranges.upper ∙ c.requires.upper;
    }

pub returns-in-Some-clause-safe : goal.returns-in-Some-clause-safe
returns-in-Some-clause-safe c =
    let found = rw c.in-Some.is at c.in_ok-first_halving.ensures.first in
    allowed_is_safe c.args.setup.now c.args.terms.now.frame c.args.x.now c.in-Some.halving.places
    (first_halving_is_allowed c.args.setup.now c.args.terms.now.frame c.args.x.now c.items.result.now c.in-Some.halving found)

pub returns-in-Some-clause-pose : goal.returns-in-Some-clause-pose
returns-in-Some-clause-pose c =
    let found = rw c.in-Some.is at c.in_ok-first_halving.ensures.first in
    let as_many = ap (λ (d : List V3). length d) c.items.ensures ∙ c.requires.direction.each in
    allowed_is_pose c.args.setup.now c.args.terms.now.frame c.args.x.now c.in-Some.halving.places
    (ap length found.places ∙ length-moved_by c.args.x.now c.items.result.now c.in-Some.halving.half as_many ∙ c.requires.ready.pose.each)
    (first_halving_is_allowed c.args.setup.now c.args.terms.now.frame c.args.x.now c.items.result.now c.in-Some.halving found)
