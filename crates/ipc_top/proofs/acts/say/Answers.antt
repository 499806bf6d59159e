use Rattle.std.proofs.Common.{[], ◌∷◌, ◌∙◌, ◌≡◌, refl}
use Rattle.report_text.specs.Lines.{text_of_line}
use Rattle.ipc_top.specs.Acts.{Say, Next}
use Rattle.ipc_top.proofs.ActsDone.{lacks_memory, said_line, shelf_stays, stops_first, wrote_front}
use Rattle.ipc_top.proofs.acts.say.Goals as goal

pub returns-in_err-text : goal.returns-in_err-text
returns-in_err-text g c = λ s. lacks_memory _ _ _ _ c.from_residual.ensures.1

pub returns-in-Ok : goal.returns-in-Ok
returns-in-Ok g c = λ s.
    let text : c.deref.result.now ≡ text_of_line c.args.line.now = c.deref.ensures.value ∙ c.in_ok-text.ensures in
    said_line c.args.line.now c.deref.result.now s _ _ text c.in-Ok.ensures.whole c.in-Ok.ensures.faults.ok

pub returns : goal.returns
returns g c = λ s.
    let h = c.in-Err.ensures in
    let text : c.deref.result.now ≡ text_of_line c.args.line.now = c.deref.ensures.value ∙ c.in_ok-text.ensures in
    stops_first (Say c.args.line.now ∷ [])
    (record {
      line = c.args.line.now;
      part = h.part.0;
      which = Next (record { later = []; next = refl; stays = shelf_stays s });
      written = wrote_front _ _ h.part.0 _ _ h.part.1 text;
      rose = h.faults.failed;
    })
