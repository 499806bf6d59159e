use Rattle.std.proofs.Common.{◌∙◌, sym, ap, Some, Result, Ok, Err, OnErr}
use Rattle.shelf_io.specs.MemView.{files_of, map_of, making_of}
use Rattle.shelf_io.proofs.FileWrites.{nothing_added}
use Rattle.shelf_io.proofs.mem_work.add_piece.Goals as goal

on_err : {T E P Q : Type 0} (r : Result T E) → OnErr r P → (P → Q) → OnErr r Q
on_err (Ok x) p f = tt
on_err (Err e) p f = f p

pub returns-in-Making-clause-part : goal.returns-in-Making-clause-part
returns-in-Making-clause-part c =
    on_err c.add_bytes.result c.add_bytes.ensures.err (λ same. ap (λ es. Some (map_of es)) same ∙ sym (nothing_added (making_of c.args.work.now) (files_of c.args.files.now.items)))

pub returns-in_default-clause-part : goal.returns-in_default-clause-part
returns-in_default-clause-part c = sym (nothing_added (making_of c.args.work.now) (files_of c.args.files.now.items))
