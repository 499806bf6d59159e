use Rattle.std.proofs.Common.{◌≡◌, ◌++◌, replicate, string_bytes}
use Rattle.ipc_top.proofs.frame_files.add_zeros.Given as goal

abbrev pub invariant-loop : goal.invariant-loop
invariant-loop l = string_bytes l.name ≡ string_bytes l.fn.name ++ replicate l.counter 48
