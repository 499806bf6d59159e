use Rattle.std.proofs.Common.{[], ◌∙◌, ◌≡◌, refl, ap}
use Rattle.std.specs.Io.KnownBytes.{append_known}
use Rattle.report_text.specs.declared.line.Line.TheVariants as lines
use Rattle.report_text.specs.Lines.{text_of_line}
use Rattle.ipc_top.specs.Acts.{Take, Unread}
use Rattle.ipc_top.proofs.ActsDone.{lacks_memory, due_first, stops_first, wrote_front}
use Rattle.ipc_top.proofs.acts.take.Goals as goal

pub returns-in_err-line-clause-does : goal.returns-in_err-line-clause-does
returns-in_err-line-clause-does g c = lacks_memory _ _ _ _ c.from_residual.ensures.1

pub returns-in-Err-Memory-clause-does : goal.returns-in-Err-Memory-clause-does
returns-in-Err-Memory-clause-does g c =
    let h = rw c.in-Err-Memory.field-0-is at c.in-Err-Memory.ensures in
    stops_first _
    (record {
      act = due_first (Take c.args.name.now) [];
      shelf = record { files = h.files; read_faults = h.refused.read_faults; write_faults = h.write_faults; finished = λ e. h.writing };
      console = refl;
    })

pub returns-in-Ok-say_all-clause-does : goal.returns-in-Ok-say_all-clause-does
returns-in-Ok-say_all-clause-does g c =
    let h = rw c.in-Err-Failed.field-0-is at c.in-Err-Failed.ensures in
    let line : c.deref.result.now ≡ text_of_line (lines.ReadFault c.args.name.now) = c.deref.ensures.value ∙ c.in_ok-line.ensures in
    stops_first _
    (record {
      fault = record {
        name = c.args.name.now;
        later = [];
        next = refl;
        files = h.files;
        failed = h.refused.failed;
        rose = h.refused.read_faults;
        write_faults = h.write_faults;
      };
      written = c.in-Ok-say_all.ensures.whole ∙ ap (append_known _) line;
      faults = c.in-Ok-say_all.ensures.faults.ok;
    })

pub returns-clause-does : goal.returns-clause-does
returns-clause-does g c =
    let h = rw c.in-Err-Failed.field-0-is at c.in-Err-Failed.ensures in
    let s = c.in-Err.ensures in
    let line : c.deref.result.now ≡ text_of_line (lines.ReadFault c.args.name.now) = c.deref.ensures.value ∙ c.in_ok-line.ensures in
    stops_first _
    (record {
      line = lines.ReadFault c.args.name.now;
      part = s.part.0;
      which = Unread (record { name = c.args.name.now; later = []; next = refl; files = h.files; failed = h.refused.failed; rose = h.refused.read_faults; write_faults = h.write_faults }) refl;
      written = wrote_front _ _ s.part.0 _ _ s.part.1 line;
      rose = s.faults.failed;
    })
