use Rattle.std.proofs.Common.{◌≤◌, subst, arith}
use Rattle.std.proofs.lemmas.List.{get_or_default}
use Rattle.box_grid.specs.declared.entries.Entry.{Entry}
use Rattle.box_grid.specs.Calls.Buckets.{bucket_of}
use Rattle.box_grid.specs.Calls.Cells.{entry_key}
use Rattle.box_grid.proofs.BucketOrder.{parted_at}
use Rattle.box_grid.proofs.buckets.first_from.Goals as goal

pub returns-then-bucket-bucket_of : goal.returns-then-bucket-bucket_of
returns-then-bucket-bucket_of c =
    let here =
    subst (λ k. c.args.bucket ≤ bucket_of c.args.count k) c.key.ensures
    (subst (λ n. c.args.bucket ≤ n) c.bucket_of.ensures.value c.if-bucket-bucket_of.true) in
    parted_at c.args.entries.now c.args.count c.args.bucket c.loop-k.k c.requires.sorted (omega arith) c.loop-k.invariant
    (λ d l. subst (λ (e : Entry). c.args.bucket ≤ bucket_of c.args.count (entry_key e)) (get_or_default c.args.entries.now c.loop-k.k _ d l) here)
