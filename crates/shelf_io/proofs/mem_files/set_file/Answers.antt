use Rattle.std.proofs.Common.{◌∙◌, ap, subst, None, ◌≡◌, List}
use Rattle.std.specs.FinMap.{get}
use Rattle.shelf_io.specs.MemView.{entries_of, files_of}
use Rattle.shelf_io.specs.Calls.{IsFirst}
use Rattle.shelf_io.specs.declared.mem_files.MemFile.{MemFile}
use Rattle.shelf_io.proofs.Entries.{named_file, set_named_file, pushed}
use Rattle.shelf_io.proofs.mem_files.set_file.Goals as goal

pub returns-in-Some-clause-ok : goal.returns-in-Some-clause-ok
returns-in-Some-clause-ok c =
    let h : IsFirst (entries_of c.args.files.now.items) c.args.name.now c.in-Some.i = subst (λ (fs : List MemFile). IsFirst (entries_of fs) c.args.name.now c.in-Some.i) c.deref.ensures.value c.in-Some.ensures.some in
    set_named_file c.args.files.now.items c.args.name.now c.in-Some.i _ h
    (named_file c.args.files.now.items c.args.name.now c.in-Some.i c.index_mut-file.result.now h c.index_mut-file.ensures.value).named

pub returns-in_ok-push-in-None-clause-ok : goal.returns-in_ok-push-in-None-clause-ok
returns-in_ok-push-in-None-clause-ok c =
    let none : get (files_of c.args.files.now.items) c.args.name.now ≡ None = subst (λ (fs : List MemFile). get (files_of fs) c.args.name.now ≡ None) c.deref.ensures.value c.in-None.ensures.none in
    ap files_of c.in_ok-push-in-None.ensures.items
    ∙ pushed c.args.files.now.items (record { name = c.in_ok-name-in-None.name; bytes = c.args.bytes }) c.args.name.now c.in_ok-name-in-None.ensures.ok none
