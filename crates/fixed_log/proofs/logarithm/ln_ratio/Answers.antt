use Rattle.std.proofs.Common.{◌∙◌, ℤ, pos, ◌≤ℤ◌, subst, sym}
use Rattle.std.specs.Int.{w64}
use Rattle.std.proofs.lemmas.Int.{to_z-of_z}
use Rattle.fixed_log.proofs.Ratios.{ln_ratio_of-below}
use Rattle.fixed_log.proofs.logarithm.ln_ratio.Goals as goal

pub returns-clause-not_above_zero : goal.returns-clause-not_above_zero
returns-clause-not_above_zero c = λ h.
    let known = to_z-of_z w64 c.lg.result (record { sfits = c.lg.type_inv }) ∙ c.lg.ensures.value in
    let kept = to_z-of_z w64 c.ln_over.result (record { sfits = c.ln_over.type_inv }) in
    subst (λ (z : ℤ). z ≤ℤ pos 0) (sym (kept ∙ c.ln_over.ensures.value c.args.b known)) (ln_ratio_of-below c.args.a c.args.b c.requires.a_low h c.requires.b_high)
