use Rattle.std.proofs.Common.{ℕ, ◌∙◌, ◌^◌, ◌<◌, ℤ, pos, ◌*ℤ◌, unsigned_abs, get_or, arith}
use Rattle.num_q.specs.Rounding.{cut_of, floor_of}
use Rattle.std.proofs.lemmas.List.{length-map}
use Rattle.sparse_cg.specs.Systems.{quotient_of}
use Rattle.sparse_cg.specs.Calls.Lists.{numbers_of}
use Rattle.sparse_cg.proofs.Fronts.{combined_counted, front_kept, front_value}
use Rattle.sparse_cg.proofs.lists.write_quotients.Goals as goal

pub loop-i-preserved : goal.loop-i-preserved
loop-i-preserved c =
    front_kept (λ (k : ℕ). quotient_of c.args.shift (get_or c.args.numbers.now k (pos 0)) (get_or (numbers_of c.args.divisors.now) k (pos 0))) c.loop-i.out c.loop-i.i c.kept.result (omega arith) (c.kept.ensures.value ∙ c.quotient-number.ensures ∙ (λ t. cut_of 44 (floor_of (c.number_at.ensures t *ℤ c.power-power.ensures t) (c.divisor_at.ensures t)))) c.kept.ensures.short c.loop-i.invariant

pub returns-clause-value : goal.returns-clause-value
returns-clause-value c =
    front_value (λ (x : ℤ). unsigned_abs x < 2 ^ 44) (λ (k : ℕ). quotient_of c.args.shift (get_or c.args.numbers.now k (pos 0)) (get_or (numbers_of c.args.divisors.now) k (pos 0))) c.loop-i.out c.loop-i.i (omega arith) c.loop-i.invariant
    ∙ combined_counted (quotient_of c.args.shift) c.args.numbers.now (numbers_of c.args.divisors.now) c.loop-i.i (omega arith) (length-map c.args.divisors.now (λ d. pos d.number) ∙ omega arith)
