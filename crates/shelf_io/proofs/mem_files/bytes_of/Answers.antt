use Rattle.std.proofs.Common.{◌∙◌, sym, ap, Some}
use Rattle.shelf_io.specs.declared.mem_files.MemFile.{MemFile}
use Rattle.shelf_io.proofs.Entries.{named_file}
use Rattle.shelf_io.proofs.mem_files.bytes_of.Goals as goal

pub returns-in-Some : goal.returns-in-Some
returns-in-Some c =
    ap Some c.as_slice.ensures.value
    ∙ ap (λ (f : MemFile). Some f.bytes.items) (sym c.index-files-i.is)
    ∙ sym (named_file c.args.files.now c.args.name.now c.in-Some.i c.index-files-i.result c.in-Some.ensures.some c.index-files-i.is).bytes
