use Rattle.std.proofs.Common.{[], ◌∙◌, ◌≡◌, refl, ap}
use Rattle.std.specs.Io.KnownBytes.{append_known}
use Rattle.report_text.specs.declared.line.Line.TheVariants as lines
use Rattle.report_text.specs.Lines.{text_of_line}
use Rattle.ipc_top.specs.Acts.{Unwritten}
use Rattle.ipc_top.proofs.ActsDone.{lacks_memory, stops_first, wrote_front}
use Rattle.ipc_top.proofs.acts.put.Goals as goal

pub returns-in_err-line : goal.returns-in_err-line
returns-in_err-line g c = lacks_memory _ _ _ _ c.from_residual.ensures.1

pub returns-in-Ok-say_all : goal.returns-in-Ok-say_all
returns-in-Ok-say_all g c =
    let h = c.in-Err.ensures in
    let line : c.deref.result.now ≡ text_of_line (lines.WriteFault c.args.name.now) = c.deref.ensures.value ∙ c.in_ok-line.ensures in
    stops_first _
    (record {
      fault = record {
        name = c.args.name.now;
        text = c.args.text.now;
        later = [];
        next = refl;
        files = h.part;
        failed = h.failed;
        rose = h.write_faults.failed;
        read_faults = h.read_faults;
      };
      written = c.in-Ok-say_all.ensures.whole ∙ ap (append_known _) line;
      faults = c.in-Ok-say_all.ensures.faults.ok;
    })

pub returns : goal.returns
returns g c =
    let h = c.in-Err.ensures in
    let s = c.in-Err-say_all.ensures in
    let line : c.deref.result.now ≡ text_of_line (lines.WriteFault c.args.name.now) = c.deref.ensures.value ∙ c.in_ok-line.ensures in
    stops_first _
    (record {
      line = lines.WriteFault c.args.name.now;
      part = s.part.0;
      which = Unwritten (record { name = c.args.name.now; text = c.args.text.now; later = []; next = refl; files = h.part; failed = h.failed; rose = h.write_faults.failed; read_faults = h.read_faults }) refl;
      written = wrote_front _ _ s.part.0 _ _ s.part.1 line;
      rose = s.faults.failed;
    })
