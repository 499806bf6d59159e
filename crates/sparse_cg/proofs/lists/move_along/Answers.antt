use Rattle.std.proofs.Common.{ℕ, ◌∙◌, ◌^◌, ◌<◌, ℤ, pos, unsigned_abs, get_or, arith, to_z, of_z}
use Rattle.std.specs.Int.{w64}
use Rattle.std.proofs.lemmas.List.{get_or-set_other}
use Rattle.std.proofs.lemmas.List.Elements.{All-set}
use Rattle.whole_laws.proofs.Order.{clean}
use Rattle.sparse_cg.specs.Turns.{moved}
use Rattle.sparse_cg.proofs.Fronts.{combined_counted, front_kept, front_value}
use Rattle.sparse_cg.proofs.lists.move_along.Goals as goal

pub loop-i-preserved : goal.loop-i-preserved
loop-i-preserved c =
    let i = c.loop-i.i in
    let old = c.args.numbers.now in
    let ways = c.args.ways.now in
    let kept = c.kept.result in
    let back = clean w64 kept (2 ^ 44) (omega (arith, c.kept.ensures.short)) (omega arith) in
    let read = c.number_at.ensures ∙ c.loop-i.invariant.rest i (omega arith) in
    record {
      front = front_kept (λ (k : ℕ). moved c.args.share.raw (get_or old k (pos 0)) (get_or ways k (pos 0))) c.loop-i.numbers i kept (omega arith)
          (c.kept.ensures.value ∙ c.moved-number.ensures ∙ (λ t. moved c.args.share.raw (read t) (c.number_at-in-loop-i.ensures t))) c.kept.ensures.short c.loop-i.invariant.front;
      short = All-set (λ (x : ℤ). unsigned_abs x < 2 ^ 44) c.loop-i.numbers i (to_z w64 (of_z w64 kept)) (rw back c.kept.ensures.short) c.loop-i.invariant.short;
      rest = λ k more. get_or-set_other c.loop-i.numbers i k (to_z w64 (of_z w64 kept)) (pos 0) (λ same. omega arith) ∙ c.loop-i.invariant.rest k (omega arith);
    }

pub returns-clause-value : goal.returns-clause-value
returns-clause-value c =
    front_value (λ (x : ℤ). unsigned_abs x < 2 ^ 44) (λ (k : ℕ). moved c.args.share.raw (get_or c.args.numbers.now k (pos 0)) (get_or c.args.ways.now k (pos 0))) c.loop-i.numbers c.loop-i.i (omega arith) c.loop-i.invariant.front
    ∙ combined_counted (moved c.args.share.raw) c.args.numbers.now c.args.ways.now c.loop-i.i (omega arith) (omega arith)
