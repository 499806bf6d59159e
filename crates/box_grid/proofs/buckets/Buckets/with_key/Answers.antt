use Rattle.std.proofs.Common.{◌≡◌, ◌∙◌, ◌-◌, ◌+◌, ap, drop, sym, subst, arith, length}
use Rattle.box_grid.specs.Calls.Buckets.{Bucketed, IsPart, IsParted}
use Rattle.box_grid.proofs.BucketOrder.{part_of, place_at, places_rise}
use Rattle.box_grid.proofs.buckets.Buckets.with_key.Goals as goal

pub overflow_sub-many : goal.overflow_sub-many
overflow_sub-many c =
    let g = c.self.inside in
    let parted : IsParted g.entries.items g.starts.items = subst (λ (b : Bucketed). IsParted b.entries b.starts) (sym c.self.view_is) c.requires in
    let count = c.len.result - 1 in
    let bucket = c.bucket_of-bucket.result in
    let more : count + 1 ≡ length g.starts.items = omega (arith, c.len.ensures, parted.some) in
    places_rise g.entries.items count bucket _ _
    (place_at g.entries.items g.starts.items count bucket _ parted more (omega (arith, c.bucket_of-bucket.ensures.bound)) c.index-start.ensures)
    (place_at g.entries.items g.starts.items count (bucket + 1) _ parted more (omega (arith, c.bucket_of-bucket.ensures.bound)) c.index.ensures)

pub returns : goal.returns
returns c =
    let g = c.self.inside in
    let parted : IsParted g.entries.items g.starts.items = subst (λ (b : Bucketed). IsParted b.entries b.starts) (sym c.self.view_is) c.requires in
    let count = c.len.result - 1 in
    let bucket = c.bucket_of-bucket.result in
    let more : count + 1 ≡ length g.starts.items = omega (arith, c.len.ensures, parted.some) in
    let start = place_at g.entries.items g.starts.items count bucket _ parted more (omega (arith, c.bucket_of-bucket.ensures.bound)) c.index-start.ensures in
    let end = place_at g.entries.items g.starts.items count (bucket + 1) _ parted more (omega (arith, c.bucket_of-bucket.ensures.bound)) c.index.ensures in
    subst (λ (b : Bucketed). IsPart b.entries c.args.key c.split_at-2.result.0.now) c.self.view_is
    (part_of g.entries.items c.split_at.result.1.now c.split_at-2.result.0.now count c.args.key bucket c.index-start.result.now c.index.result.now c.bucket_of-bucket.ensures.value start end (places_rise g.entries.items count bucket _ _ start end)
    (c.split_at.ensures.back ∙ ap (drop c.index-start.result.now) c.deref.ensures.value) c.split_at-2.ensures.front)
