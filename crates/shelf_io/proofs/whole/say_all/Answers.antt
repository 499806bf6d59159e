use Rattle.std.proofs.Common.{ℕ, ◌+◌, ◌∙◌, arith, length-take-le, length-drop}
use Rattle.std.proofs.lemmas.Result.{err_from_is_err_and}
use Rattle.shelf_io.proofs.Pieces.{grown_more}
use Rattle.shelf_io.proofs.whole.say_all.Goals as goal

pub loop-said-preserved : goal.loop-said-preserved
loop-said-preserved g c =
    let h = c.in_ok-said.ensures in
    let i = c.loop-said.invariant in
    record {
      within = omega (arith, h.bound, length-take-le {A = ℕ}, length-drop {A = ℕ});
      written = h.added ∙ grown_more _ _ c.args.bytes.now c.loop-said.said c.in_ok-said.field-0 i.written;
      faults = h.faults.ok ∙ i.faults;
    }

pub returns-in_err-said : goal.returns-in_err-said
returns-in_err-said g c =
    let p = err_from_is_err_and c.from_residual.result c.from_residual.ensures.1 in
    let h = c.in_err-said.ensures in
    let i = c.loop-said.invariant in
    rw (p.1)
    (record {
      whole = tt;
      part = (c.loop-said.said + h.part.0, h.part.1 ∙ grown_more _ _ c.args.bytes.now c.loop-said.said h.part.0 i.written);
      faults = record { ok = tt; failed = omega (arith, h.faults.failed, i.faults); later = omega (arith, h.faults.later, i.faults) };
    })
