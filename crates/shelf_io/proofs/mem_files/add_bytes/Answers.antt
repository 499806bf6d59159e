use Rattle.std.proofs.Common.{◌∙◌, ap, sym, subst, refl, List}
use Rattle.std.specs.FinMap.{insert}
use Rattle.shelf_io.specs.MemView.{entries_of, files_of}
use Rattle.shelf_io.specs.Calls.{IsFirst}
use Rattle.shelf_io.specs.declared.mem_files.MemFile.{MemFile}
use Rattle.shelf_io.proofs.FileWrites.{added_there}
use Rattle.shelf_io.proofs.Entries.{named_file, set_named_file, set_alike}
use Rattle.shelf_io.proofs.mem_files.add_bytes.Goals as goal

pub returns-in-Ok-clause-ok : goal.returns-in-Ok-clause-ok
returns-in-Ok-clause-ok c =
    let fs = c.args.files.now.items in
    let name = c.args.name.now in
    let f = c.index_mut-file.result.now in
    let h : IsFirst (entries_of fs) name c.in-Some.i = subst (λ (fs : List MemFile). IsFirst (entries_of fs) c.args.name.now c.in-Some.i) c.deref.ensures.value c.in-Some.ensures.some in
    let is = named_file fs name c.in-Some.i f h c.index_mut-file.ensures.value in
    set_named_file fs name c.in-Some.i _ h is.named
    ∙ ap (insert (files_of fs) name) c.in-Ok.ensures.items
    ∙ sym (added_there (files_of fs) name f.bytes.items c.args.piece.now is.bytes)

pub returns-in-Err-clause-err : goal.returns-in-Err-clause-err
returns-in-Err-clause-err c = set_alike c.args.files.now.items c.in-Some.i c.index_mut-file.result.now _ c.index_mut-file.ensures.value refl c.in-Err.ensures.items
