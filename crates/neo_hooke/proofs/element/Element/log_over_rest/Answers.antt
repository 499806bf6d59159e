use Rattle.std.proofs.Common.{◌≡◌, ◌∙◌, ◌^◌, ◌<◌, ℤ, pos, ◌≤ℤ◌, ◌*◌, unsigned_abs, to_z, of_z, arith}
use Rattle.std.specs.Int.{w64}
use Rattle.std.proofs.lemmas.Int.{ints, fits_signed_from_abs, to_z-of_z}
use Rattle.fixed_log.specs.Logarithm.{IsLogarithm}
use Rattle.neo_hooke.proofs.element.Element.log_over_rest.Goals as goal

-- a logarithm within 64 bits
kept : (lg : ℤ) → IsLogarithm lg → to_z w64 (of_z w64 lg) ≡ lg
kept lg l = to_z-of_z w64 lg (fits_signed_from_abs w64 lg (small lg l.low l.high))
  where
    small : (z : ℤ) → pos 0 ≤ℤ z → z ≤ℤ pos (68 * 2 ^ 24) → unsigned_abs z < 2 ^ 63
    small z h k = omega (arith, ints)

pub returns-clause-value : goal.returns-clause-value
returns-clause-value c =
    let element = c.args.self.now in
    to_z-of_z w64 c.ln_over.result (record { sfits = c.ln_over.type_inv })
    ∙ c.ln_over.ensures.value (unsigned_abs element.r.raw) (kept element.lg element.logarithm ∙ element.known)
