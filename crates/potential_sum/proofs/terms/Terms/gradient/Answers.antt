use Rattle.std.proofs.Common.{◌∙◌, ◌^◌, ◌-◌, length, ap, subst, sym, arith}
use Rattle.std.specs.Prelude.{All}
use Rattle.std.proofs.lemmas.List.Elements.{All-weaker}
use Rattle.space3.specs.Vectors.{AtMost}
use Rattle.potential_sum.specs.Potential.{gradient}
use Rattle.potential_sum.proofs.Gradients.{gradient_is_small, length-gradient}
use Rattle.potential_sum.proofs.terms.Terms.gradient.Goals as goal

pub returns-clause-each : goal.returns-clause-each
returns-clause-each c = ap length c.in_ok-out.ensures ∙ length-gradient c.args.setup.now c.args.self.now.frame c.args.x.now

pub returns-clause-small : goal.returns-clause-small
returns-clause-small c =
    subst (All (AtMost (2 ^ 124))) (sym c.in_ok-out.ensures)
    (All-weaker (AtMost (2 ^ 124 - 1)) (AtMost (2 ^ 124)) (λ slope h. record { bound = omega (arith, h.bound) }) (gradient c.args.setup.now c.args.self.now.frame c.args.x.now)
    (gradient_is_small c.args.setup.now c.args.self.now c.args.x.now c.requires.built c.requires.stand c.requires.pose))
