use Rattle.std.proofs.Common.{◌≡◌, ◌≤◌, ◌-◌, length, take}
use Rattle.std.specs.Io.KnownBytes.{append_known}
use Rattle.shelf_io.proofs.whole.say_all.Given as goal

-- so many bytes were written, and nothing failed
abbrev pub invariant-loop-said : goal.invariant-loop-said
invariant-loop-said g l =
    let old = g.C.Sink.state l.fn.console in
    let now = g.C.Sink.state l.console in
    record {
      within : l.said ≤ length l.bytes;
      written : now.written ≡ append_known old.written (take l.said l.bytes);
      faults : now.faults ≡ old.faults;
    }

abbrev pub decreases-loop-said : goal.decreases-loop-said
decreases-loop-said g l = length l.bytes - l.said
