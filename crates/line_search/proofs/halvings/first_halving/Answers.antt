use Rattle.std.proofs.Common.{◌≡◌, ◌∙◌, ◌+◌, false, true, arith, refl, ap, sym, subst}
use borrow.Author.Count.{below_more}
use Rattle.space3.specs.Moved.{moved_by}
use Rattle.line_search.specs.Accepted.{IsAccepted}
use Rattle.line_search.proofs.HalvingCounts.{rises_in_all, rises_none, rises_on}
use Rattle.line_search.proofs.halvings.first_halving.Goals as goal

differ : false ≡ true → ⊥
differ e = cc

pub loop-half-init : goal.loop-half-init
loop-half-init c = record {
  none = λ earlier l. absurd (omega (arith, l));
  tally = rises_none c.args.setup.now c.args.terms.now.frame c.args.x.now c.args.direction.now c.args.tally.now.n (omega arith);
}

pub loop-half-preserved : goal.loop-half-preserved
loop-half-preserved c =
    let found = rw c.in_default.is at c.in_ok-found.ensures.accepted in
    record {
      none = below_more (λ earlier. ¬ IsAccepted c.args.setup.now c.args.terms.now.frame c.args.x.now c.args.direction.now earlier) c.loop-half.half c.loop-half.invariant.none (λ a. differ (found.1 a));
      tally =
          rises_on c.args.setup.now c.args.terms.now.frame c.args.x.now c.args.direction.now c.loop-half.half _ _ _ (omega (arith, c.loop-half-test.true)) c.loop-half.invariant.none c.loop-half.invariant.tally
          c.in_ok-found.ensures.tally;
    }

pub returns-in-Some-clause-first : goal.returns-in-Some-clause-first
returns-in-Some-clause-first c =
    let accepted = rw c.in-Some.is at c.in_ok-found.ensures.accepted in
    let halving = rw c.in-Some.is at c.in_ok-found.ensures.halving in
    record {
      first = record {
        few = omega (arith, halving.half, c.loop-half-test.true);
        accepted = subst (IsAccepted c.args.setup.now c.args.terms.now.frame c.args.x.now c.args.direction.now) (sym halving.half) (accepted.0 refl);
        least = λ earlier before. c.loop-half.invariant.none earlier (omega (arith, halving.half, before));
      };
      places = halving.places ∙ ap (moved_by c.args.x.now c.args.direction.now) (sym halving.half);
      lower = halving.lower;
    }

pub returns-in_err-found-clause-tally : goal.returns-in_err-found-clause-tally
returns-in_err-found-clause-tally c =
    rises_in_all c.args.setup.now c.args.terms.now.frame c.args.x.now c.args.direction.now (c.loop-half.half + 1) _ _
    (rises_on c.args.setup.now c.args.terms.now.frame c.args.x.now c.args.direction.now c.loop-half.half _ _ _ (omega (arith, c.loop-half-test.true)) c.loop-half.invariant.none c.loop-half.invariant.tally
    c.accepted_halving.ensures.tally)

pub returns-in-Some-clause-tally : goal.returns-in-Some-clause-tally
returns-in-Some-clause-tally c =
    rises_in_all c.args.setup.now c.args.terms.now.frame c.args.x.now c.args.direction.now (c.loop-half.half + 1) _ _
    (rises_on c.args.setup.now c.args.terms.now.frame c.args.x.now c.args.direction.now c.loop-half.half _ _ _ (omega (arith, c.loop-half-test.true)) c.loop-half.invariant.none c.loop-half.invariant.tally
    c.accepted_halving.ensures.tally)

pub returns-clause-tally : goal.returns-clause-tally
returns-clause-tally c = rises_in_all c.args.setup.now c.args.terms.now.frame c.args.x.now c.args.direction.now c.loop-half.half _ _ c.loop-half.invariant.tally
