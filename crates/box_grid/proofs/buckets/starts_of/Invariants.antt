use Rattle.std.proofs.Common.{◌≡◌, ℕ, ◌<◌, ◌≤◌, get_or, length}
use Rattle.box_grid.specs.declared.entries.Entry.{Entry}
use Rattle.box_grid.specs.Calls.Buckets.{IsPartedAt, bucket_of}
use Rattle.box_grid.specs.Calls.Cells.{entry_key}
use Rattle.box_grid.proofs.buckets.starts_of.Given as goal

abbrev pub invariant-loop-bucket : goal.invariant-loop-bucket
invariant-loop-bucket l = record {
  many : length l.starts.items ≡ l.bucket;
  each : (b d : ℕ) → b < l.bucket → IsPartedAt l.entries l.count b (get_or l.starts.items b d);
  within : l.start ≤ length l.entries;
  below : (k : ℕ) (d : Entry) → k < l.start → bucket_of l.count (entry_key (get_or l.entries k d)) < l.bucket;
}
