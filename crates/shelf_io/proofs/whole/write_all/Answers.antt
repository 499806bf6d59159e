use Rattle.std.proofs.Common.{ℕ, ◌+◌, ◌∙◌, sym, subst, arith, length-take-le, length-drop, inr}
use Rattle.std.proofs.lemmas.Result.{err_from_is_err_and}
use Rattle.shelf_io.specs.Shelf.{IsIfTold}
use Rattle.shelf_io.proofs.FileWrites.{made_more, told_name}
use Rattle.shelf_io.proofs.whole.write_all.Goals as goal

pub returns-in_err-sent : goal.returns-in_err-sent
returns-in_err-sent g c =
    let p = err_from_is_err_and c.from_residual-in_err-sent.result c.from_residual-in_err-sent.ensures.1 in
    let h = c.in_err-sent.ensures in
    let i = c.loop-sent.invariant in
    rw (p.1)
    (record {
      whole = tt;
      part = inr (c.loop-sent.sent + h.part.0, h.part.1 ∙ made_more _ _ c.args.name.now c.args.bytes.now _ c.loop-sent.sent h.part.0 i.told i.files);
      writing = tt;
      making = tt;
      reading = h.reading ∙ i.reading;
      opened = h.opened ∙ i.opened;
      unread = h.unread ∙ i.unread;
      taken = h.taken ∙ i.taken;
      kept = tt;
      failed = told_name _ _ c.args.name.now h.failed i.making;
      read_faults = h.read_faults ∙ i.read_faults;
      write_faults = record { ok = tt; failed = omega (arith, h.write_faults.failed, i.write_faults); later = omega (arith, h.write_faults.later, i.write_faults) };
    })

pub loop-sent-preserved : goal.loop-sent-preserved
loop-sent-preserved g c =
    let h = c.in_ok-sent.ensures in
    let i = c.loop-sent.invariant in
    record {
      within = omega (arith, h.bound, length-take-le {A = ℕ}, length-drop {A = ℕ});
      writing = h.writing ∙ i.writing;
      files = h.added ∙ made_more _ _ c.args.name.now c.args.bytes.now _ c.loop-sent.sent c.in_ok-sent.field-0 i.told i.files;
      making = subst (λ m. IsIfTold m c.args.name.now) (sym h.making) i.making;
      told = λ s. h.making ∙ i.told s;
      reading = h.reading ∙ i.reading;
      opened = h.opened ∙ i.opened;
      unread = h.unread ∙ i.unread;
      taken = h.taken ∙ i.taken;
      failed = h.kept ∙ i.failed;
      read_faults = h.read_faults ∙ i.read_faults;
      write_faults = h.write_faults.ok ∙ i.write_faults;
    }
