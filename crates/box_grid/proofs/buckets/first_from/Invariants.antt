use Rattle.std.proofs.Common.{ℕ, ◌<◌, get_or}
use Rattle.box_grid.specs.declared.entries.Entry.{Entry}
use Rattle.box_grid.specs.Calls.Buckets.{bucket_of}
use Rattle.box_grid.specs.Calls.Cells.{entry_key}
use Rattle.box_grid.proofs.buckets.first_from.Given as goal

abbrev pub invariant-loop-k : goal.invariant-loop-k
invariant-loop-k l = (k : ℕ) (d : Entry) → k < l.k → bucket_of l.count (entry_key (get_or l.entries k d)) < l.bucket
