use Rattle.std.proofs.Common.{◌∙◌, sym, ap, Some, below_more, ◌≡◌, arith, string_bytes, Bool, true, false}
use Rattle.std.proofs.lemmas.Slice.Eq.{bytes_eq-Decides}
use Rattle.shelf_io.specs.MemView.{entries_of}
use Rattle.shelf_io.proofs.Entries.{entries_length, file_at, none_of_all, one_name}
use Rattle.shelf_io.proofs.mem_files.index_of.Goals as goal

absurd_eq : (b : Bool) → b ≡ true → b ≡ false → ⊥
absurd_eq b p q = cc

pub returns-then-eq-clause-some : goal.returns-then-eq-clause-some
returns-then-eq-clause-some c =
    let f = c.index-files-i.result in
    let same : string_bytes f.name ≡ c.args.name.now = sym c.as_str.ensures.value ∙ (bytes_eq-Decides c.as_str.result.now c.args.name.now).0 (sym c.eq.ensures ∙ c.if-eq.true) in
    record {
      bytes = f.bytes.items;
      here = file_at c.args.files.now c.loop-i.i f c.loop-i-test.true c.index-files-i.is ∙ ap (λ n. Some (n, f.bytes.items)) same;
      before = c.loop-i.invariant;
    }

pub loop-i-preserved : goal.loop-i-preserved
loop-i-preserved c =
    below_more _ _ c.loop-i.invariant (λ others e.
    let f = c.index-files-i.result in
    let same : string_bytes f.name ≡ c.args.name.now = one_name _ _ _ _ _ (file_at c.args.files.now c.loop-i.i f c.loop-i-test.true c.index-files-i.is) e in
    absurd_eq c.eq.result (c.eq.ensures ∙ (bytes_eq-Decides c.as_str.result.now c.args.name.now).1 (c.as_str.ensures.value ∙ same)) c.if-eq.false)

pub returns-clause-none : goal.returns-clause-none
returns-clause-none c = none_of_all (entries_of c.args.files.now) c.args.name.now c.loop-i.i (omega (arith, c.loop-i-test.false, entries_length c.args.files.now)) c.loop-i.invariant
