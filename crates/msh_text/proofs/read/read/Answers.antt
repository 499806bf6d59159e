use Rattle.std.proofs.Common.{◌∙◌, ◌+◌, length, sym, ap, arith, Err}
use Rattle.std.proofs.lemmas.Result.{err_from_is_err_and}
use Rattle.line_fields.specs.Lines.{fields, lines, numbered, numbered_from}
use Rattle.msh_text.specs.FirstFault.{start, fault_at}
use Rattle.msh_text.specs.Calls.Reading.{read, progress_of}
use Rattle.msh_text.proofs.Loop.{goes_on, fails, ends, ends_so, gives_mesh}
use Rattle.msh_text.proofs.read.read.Goals as goal

pub returns-in_err-reader : goal.returns-in_err-reader
returns-in_err-reader c =
    let p = err_from_is_err_and c.from_residual.result c.from_residual.ensures.1 in
    rw (p.1, p.2)
    (fails (read (start c.args.digits c.args.snap) (numbered c.args.text.now) (length (lines c.args.text.now))) (length (lines c.args.text.now)) (progress_of c.loop-line.reader) c.in-Some.line (fields c.in-Some.row.now) (numbered_from c.loop-line.first c.loop-line.rest.now)
    (numbered_from (c.in-Some.line + 1) c.in-Some.after.now) c.in_err-reader.field-0.0 c.loop-line.invariant.reads c.in-Some.ensures.first c.in_err-reader.ensures)

pub loop-line-preserved : goal.loop-line-preserved
loop-line-preserved c = record {
  reads = goes_on (read (start c.args.digits c.args.snap) (numbered c.args.text.now) (length (lines c.args.text.now))) (length (lines c.args.text.now)) (progress_of c.loop-line.reader) (progress_of c.in_ok-reader.reader) c.in-Some.line (fields c.in-Some.row.now)
      (numbered_from c.loop-line.first c.loop-line.rest.now) (numbered_from (c.in-Some.line + 1) c.in-Some.after.now) c.loop-line.invariant.reads c.in-Some.ensures.first c.in_ok-reader.ensures.0 c.in_ok-reader.ensures.1;
  within = omega (arith, c.in-Some.ensures.within);
}

pub returns-in-None : goal.returns-in-None
returns-in-None c =
    gives_mesh (read (start c.args.digits c.args.snap) (numbered c.args.text.now) (length (lines c.args.text.now))) (progress_of c.loop-line.reader).mesh c.mesh_of.result
    (ends (read (start c.args.digits c.args.snap) (numbered c.args.text.now) (length (lines c.args.text.now))) (length (lines c.args.text.now)) (progress_of c.loop-line.reader) (numbered_from c.loop-line.first c.loop-line.rest.now) c.loop-line.invariant.reads c.in_default.ensures.first (sym c.in-None.ensures))
    c.mesh_of.ensures

pub returns-in-Some-kind_at_end : goal.returns-in-Some-kind_at_end
returns-in-Some-kind_at_end c =
    ends_so (read (start c.args.digits c.args.snap) (numbered c.args.text.now) (length (lines c.args.text.now))) (length (lines c.args.text.now)) (progress_of c.loop-line.reader) (numbered_from c.loop-line.first c.loop-line.rest.now) c.in-Some-kind_at_end.kind c.loop-line.invariant.reads c.in_default.ensures.first
    (sym c.in-Some-kind_at_end.ensures)
    ∙ ap (λ n. Err (fault_at n c.in-Some-kind_at_end.kind)) (sym c.line_count.ensures)
